-- A line cut at its spaces.
use Rattle.std.specs.Prelude.{◌≡◌, ℕ, if◌then◌else◌, bytes_eq, List, ◌∷◌, ◌++◌, codes, decimal, Option, Some, None}
use Rattle.scrip_form.specs.Issuing.{Issuing}
use Rattle.mc_fields.specs.Cuts.{cut, then_cut}
use Rattle.command_table.specs.Ranges.{joined}

-- the words behind the first of a licence line
pub record Fields : Type 0 where
  pub vendor : List ℕ
  pub issuer : List ℕ
  pub period : List ℕ
  pub life : List ℕ
  pub scrip : List ℕ
  pub customer : List ℕ

-- six words with a space between each two
abbrev pub six_words : List ℕ → Option Fields
six_words line =
    then_cut (cut 32 line) λ vendor rest.
    then_cut (cut 32 rest) λ issuer rest.
    then_cut (cut 32 rest) λ period rest.
    then_cut (cut 32 rest) λ life rest.
    then_cut (cut 32 rest) λ scrip customer.
    Some (record { vendor = vendor; issuer = issuer; period = period; life = life; scrip = scrip; customer = customer })

-- the words of a line that begins with `licence`
abbrev pub fields_of : List ℕ → Option Fields
fields_of line = then_cut (cut 32 line) λ word rest. if bytes_eq word (codes "licence") then six_words rest else None

-- the line of some words
abbrev pub fields_text : Fields → List ℕ
fields_text f =
    codes "licence" ++ 32 ∷ (f.vendor ++ 32 ∷ (f.issuer ++ 32 ∷ (f.period ++ 32 ∷ (f.life ++ 32 ∷ (f.scrip ++ 32 ∷ f.customer)))))

-- the words of a licence
abbrev pub licence_fields : List ℕ → Issuing → Fields
licence_fields vendor t = record {
  vendor = vendor;
  issuer = decimal t.issuer;
  period = decimal t.period;
  life = decimal t.life;
  scrip = joined t.scrip;
  customer = joined t.customer;
}

-- words that spell the terms of an issuer
pub record SpellTerms (f : Fields) (t : Issuing) : Type 0 where
  pub issuer' : f.issuer ≡ decimal t.issuer
  pub period' : f.period ≡ decimal t.period
  pub life' : f.life ≡ decimal t.life
  pub scrip' : f.scrip ≡ joined t.scrip
  pub customer' : f.customer ≡ joined t.customer
