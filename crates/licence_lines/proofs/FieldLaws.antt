-- A licence line and its words.
use Rattle.std.proofs.Common.{◌≡◌, ℕ, ◌+◌, ◌/◌, ◌%◌, ◌<◌, ◌≤◌, ◌^◌, Bool, true, false, eqb, ◌&&◌, ◌||◌, lit≤, lit<, inl, inr, leb, List, [], ◌∷◌, ◌++◌, length, get_or, Option, Some, None, refl, sym, ap, ap₂, ◌∙◌, append_assoc, arith}
use Rattle.std.specs.Prelude.{bytes_eq, codes, decimal, if◌then◌else◌}
use Rattle.std.specs.List.{list_any, list_all, AllByRecursion}
use Rattle.std.proofs.lemmas.Bool.{eqb-true, leb-true, le-leb, and_parts, and_from, or_from, or_parts, false_from_ne_true}
use Rattle.std.proofs.lemmas.Option.{same_Some}
use Rattle.std.proofs.lemmas.Fmt.{decimal_by_steps}
use Rattle.std.proofs.lemmas.List.Sums.{list_all-from_AllPass, AllPass-from_list_all}
use Rattle.std.proofs.lemmas.Slice.Eq.{bytes_eq-Decides}
use Rattle.hex.specs.Hex.{encode_lower, encode_with, lower_digits}
use Rattle.scrip_form.specs.Issuing.{Issuing}
use Rattle.scrip_form.specs.Scrip.{IsCert}
use Rattle.scrip_form.specs.Texts.{IsName, is_letter_or_digit, is_name_byte, is_visible}
use Rattle.command_table.specs.Ranges.{joined}
use Rattle.licence_lines.specs.Licences.{licence_line, LicenceFits, BeginsNoLicence, GoesOn, BreaksAt}
use Rattle.licence_lines.specs.Fields.{Fields, six_words, fields_of, fields_text, licence_fields, SpellTerms}
use Rattle.mc_fields.specs.Cuts.{cut}
use Rattle.mc_fields.proofs.CutLaws.{IsFree, cut_sound, cut_again, cut_then, cut_on}

-- ---- words have no spaces and no line ends

abbrev IsVisible : List ℕ → Type 0
IsVisible word = list_all is_visible word ≡ true

-- a byte that is visible is above the space
above : (c stop : ℕ) → is_visible c ≡ true → stop < 33 → eqb c stop ≡ false
above c stop is low = false_from_ne_true (eqb c stop) (λ e. let same = eqb-true c stop e in omega (arith, same, low, leb-true 33 c (and_parts _ _ is).0))

pub visible_free : (word : List ℕ) (stop : ℕ) → IsVisible word → stop < 33 → IsFree stop word
visible_free [] stop is low = refl
visible_free (c ∷ cs) stop is low =
    let parts = and_parts (is_visible c) (list_all is_visible cs) is in
    or_from (eqb c stop) (list_any (λ b. eqb b stop) cs) (above c stop parts.0 low) (visible_free cs stop parts.1 low)

visible_append : (a b : List ℕ) → IsVisible a → IsVisible b → IsVisible (a ++ b)
visible_append [] b va vb = vb
visible_append (c ∷ cs) b va vb =
    let parts = and_parts (is_visible c) (list_all is_visible cs) va in
    and_from (is_visible c) (list_all is_visible (cs ++ b)) parts.0 (visible_append cs b parts.1 vb)

one_of : (a b : Bool) (P : Type 0) → (a || b) ≡ true → (a ≡ true → P) → (b ≡ true → P) → P
one_of true b P is first second = first refl
one_of false b P is first second = second is

visible_from : (c low high : ℕ) → 33 ≤ low → high ≤ 126 → low ≤ c → c ≤ high → is_visible c ≡ true
visible_from c low high a b at_least at_most = and_from (leb 33 c) (leb c 126) (le-leb 33 c (omega (arith, a, at_least))) (le-leb c 126 (omega (arith, b, at_most)))

visible_between : (c low high : ℕ) → 33 ≤ low → high ≤ 126 → (leb low c && leb c high) ≡ true → is_visible c ≡ true
visible_between c low high a b is =
    let parts = and_parts (leb low c) (leb c high) is in
    visible_from c low high a b (leb-true low c parts.0) (leb-true c high parts.1)

name_byte_visible : (c : ℕ) → is_name_byte c ≡ true → is_visible c ≡ true
name_byte_visible c is =
    one_of (is_letter_or_digit c) (eqb c 45 || eqb c 46) (is_visible c ≡ true) is
    (λ letter. one_of (leb 97 c && leb c 122) (leb 48 c && leb c 57) (is_visible c ≡ true) letter
    (visible_between c 97 122 (lit≤ tt) (lit≤ tt)) (visible_between c 48 57 (lit≤ tt) (lit≤ tt)))
    (λ sign. one_of (eqb c 45) (eqb c 46) (is_visible c ≡ true) sign
    (λ e. let same = eqb-true c 45 e in visible_from c 45 45 (lit≤ tt) (lit≤ tt) (omega (arith, same)) (omega (arith, same)))
    (λ e. let same = eqb-true c 46 e in visible_from c 46 46 (lit≤ tt) (lit≤ tt) (omega (arith, same)) (omega (arith, same))))

all_name_bytes : (name : List ℕ) → list_all is_name_byte name ≡ true → IsVisible name
all_name_bytes [] is = refl
all_name_bytes (c ∷ cs) is =
    let parts = and_parts (is_name_byte c) (list_all is_name_byte cs) is in
    and_from (is_visible c) (list_all is_visible cs) (name_byte_visible c parts.0) (all_name_bytes cs parts.1)

name_visible : (name : List ℕ) → IsName name → IsVisible name
name_visible name is = all_name_bytes name (list_all-from_AllPass is_name_byte name is.all)

digit_visible : (n : ℕ) → n < 10 → IsVisible ((48 + n) ∷ [])
digit_visible n small = and_from (is_visible (48 + n)) true (visible_from (48 + n) 48 57 (lit≤ tt) (lit≤ tt) (omega arith) (omega (arith, small))) refl

decimal_visible : (n : ℕ) → n < 2 ^ 64 → IsVisible (decimal n)
decimal_visible = decimal_by_steps (λ n ds. IsVisible ds) digit_visible (λ n ds least is. visible_append ds ((48 + n % 10) ∷ []) is (digit_visible (n % 10) (omega arith)))

hex_digit_visible : (i : ℕ) → i < 16 → is_visible (get_or lower_digits i 0) ≡ true
hex_digit_visible i small = AllPass-from_list_all is_visible lower_digits refl i 0 small

hex_visible : (bytes : List ℕ) → AllByRecursion (λ b. b < 256) bytes → IsVisible (encode_lower bytes)
unfolding encode_with
hex_visible [] small = refl
hex_visible (b ∷ bytes) small =
    and_from (is_visible (get_or lower_digits (b / 16) 0)) (is_visible (get_or lower_digits (b % 16) 0) && list_all is_visible (encode_lower bytes)) (hex_digit_visible (b / 16) (omega (arith, small.0)))
    (and_from (is_visible (get_or lower_digits (b % 16) 0)) (list_all is_visible (encode_lower bytes)) (hex_digit_visible (b % 16) (omega arith)) (hex_visible bytes small.1))

joined_visible : (secrets : List (List ℕ)) → AllByRecursion IsCert secrets → IsVisible (joined secrets)
joined_visible [] certs = refl
joined_visible (x ∷ []) certs = hex_visible x certs.0.1
joined_visible (x ∷ y ∷ ys) certs = visible_append (encode_lower x) (44 ∷ joined (y ∷ ys)) (hex_visible x certs.0.1) (joined_visible (y ∷ ys) certs.1)

-- ---- words and lines

abbrev six_text : Fields → List ℕ
six_text f = f.vendor ++ 32 ∷ (f.issuer ++ 32 ∷ (f.period ++ 32 ∷ (f.life ++ 32 ∷ (f.scrip ++ 32 ∷ f.customer))))

abbrev fields_with : List ℕ → List ℕ → List ℕ → List ℕ → List ℕ → List ℕ → Fields
fields_with vendor issuer period life scrip customer = record { vendor = vendor; issuer = issuer; period = period; life = life; scrip = scrip; customer = customer }

abbrev onto : List ℕ → List ℕ → List ℕ
onto word rest = word ++ 32 ∷ rest

six_sound : (line : List ℕ) (f : Fields) → six_words line ≡ Some f → line ≡ six_text f
six_sound line f is =
    let a = cut_then line _ f is in
    let b = cut_then a.1 _ f a.3 in
    let d = cut_then b.1 _ f b.3 in
    let e = cut_then d.1 _ f d.3 in
    let g = cut_then e.1 _ f e.3 in
    let same = same_Some (fields_with a.0 b.0 d.0 e.0 g.0 g.1) f g.3 in
    a.2 ∙ ap (onto a.0) (b.2 ∙ ap (onto b.0) (d.2 ∙ ap (onto d.0) (e.2 ∙ ap (onto e.0) g.2))) ∙ ap six_text same

abbrev if_licence : List ℕ → Option Fields → Option Fields
if_licence word o = if bytes_eq word (codes "licence") then o else None

word_is : (word : List ℕ) (o : Option Fields) (f : Fields) → if_licence word o ≡ Some f → (word ≡ codes "licence") × (o ≡ Some f)
word_is word o f is = go (bytes_eq word (codes "licence")) refl is
  where
    go : (b : Bool) → bytes_eq word (codes "licence") ≡ b → (if b then o else None) ≡ Some f → (word ≡ codes "licence") × (o ≡ Some f)
    go true e n = ((bytes_eq-Decides word (codes "licence")).0 e, n)
    go false e n = absurd cc

pub fields_sound : (line : List ℕ) (f : Fields) → fields_of line ≡ Some f → line ≡ fields_text f
fields_sound line f is =
    let a = cut_then line (λ word rest. if_licence word (six_words rest)) f is in
    let w = word_is a.0 (six_words a.1) f a.3 in
    a.2 ∙ ap₂ onto w.0 (six_sound a.1 f w.1)

-- the five words before the last have no space
pub record AreWords (f : Fields) : Type 0 where
  pub vendor' : IsFree 32 f.vendor
  pub issuer' : IsFree 32 f.issuer
  pub period' : IsFree 32 f.period
  pub life' : IsFree 32 f.life
  pub scrip' : IsFree 32 f.scrip

pub fields_again : (f : Fields) → AreWords f → fields_of (fields_text f) ≡ Some f
fields_again f are =
    cut_on (codes "licence") (six_text f) (λ word rest. if_licence word (six_words rest)) refl
    ∙ cut_on f.vendor _ _ are.vendor' ∙ cut_on f.issuer _ _ are.issuer' ∙ cut_on f.period _ _ are.period' ∙ cut_on f.life _ _ are.life' ∙ cut_on f.scrip _ _ are.scrip'

-- ---- a licence

pub licence_words : (vendor : List ℕ) (t : Issuing) → LicenceFits vendor t → AreWords (licence_fields vendor t)
licence_words vendor t fits = record {
  vendor' = visible_free vendor 32 (name_visible vendor fits.vendor') (lit< tt);
  issuer' = visible_free (decimal t.issuer) 32 (decimal_visible t.issuer (omega (arith, fits.issuer.within))) (lit< tt);
  period' = visible_free (decimal t.period) 32 (decimal_visible t.period (omega (arith, fits.terms'.period.most))) (lit< tt);
  life' = visible_free (decimal t.life) 32 (decimal_visible t.life (omega (arith, fits.terms'.period.short))) (lit< tt);
  scrip' = visible_free (joined t.scrip) 32 (joined_visible t.scrip fits.terms'.scrip.secrets') (lit< tt);
}

-- the words of a line that spells a licence
pub licence_read : (line vendor : List ℕ) (t : Issuing) → LicenceFits vendor t → line ≡ fields_text (licence_fields vendor t) → fields_of line ≡ Some (licence_fields vendor t)
licence_read line vendor t fits is = ap fields_of is ∙ fields_again (licence_fields vendor t) (licence_words vendor t fits)

-- behind the words of a line stands the LF
pub line_parts : (vendor : List ℕ) (t : Issuing) (more : List ℕ) → licence_line vendor t ++ more ≡ fields_text (licence_fields vendor t) ++ 10 ∷ more
line_parts vendor t more = simp append_assoc refl

free_append : (a b : List ℕ) → IsFree 10 a → IsFree 10 b → IsFree 10 (a ++ b)
free_append [] b fa fb = fb
free_append (c ∷ cs) b fa fb =
    let parts = or_parts (eqb c 10) (list_any (λ x. eqb x 10) cs) fa in
    or_from (eqb c 10) (list_any (λ x. eqb x 10) (cs ++ b)) parts.0 (free_append cs b parts.1 fb)

free_onto : (a b : List ℕ) → IsFree 10 a → IsFree 10 b → IsFree 10 (onto a b)
free_onto a b fa fb = free_append a (32 ∷ b) fa fb

-- a line's words have no line end
pub text_free : (vendor : List ℕ) (t : Issuing) → LicenceFits vendor t → IsFree 10 (fields_text (licence_fields vendor t))
text_free vendor t fits =
    free_onto (codes "licence") (six_text (licence_fields vendor t)) refl
    (free_onto vendor _ (visible_free vendor 10 (name_visible vendor fits.vendor') (lit< tt))
    (free_onto (decimal t.issuer) _ (visible_free (decimal t.issuer) 10 (decimal_visible t.issuer (omega (arith, fits.issuer.within))) (lit< tt))
    (free_onto (decimal t.period) _ (visible_free (decimal t.period) 10 (decimal_visible t.period (omega (arith, fits.terms'.period.most))) (lit< tt))
    (free_onto (decimal t.life) _ (visible_free (decimal t.life) 10 (decimal_visible t.life (omega (arith, fits.terms'.period.short))) (lit< tt))
    (free_onto (joined t.scrip) (joined t.customer) (visible_free (joined t.scrip) 10 (joined_visible t.scrip fits.terms'.scrip.secrets') (lit< tt))
    (visible_free (joined t.customer) 10 (joined_visible t.customer fits.terms'.customer.secrets') (lit< tt)))))))

-- an input that begins with a licence line is cut at its end
pub licence_cut : (bytes vendor : List ℕ) (t : Issuing) (more : List ℕ) → LicenceFits vendor t → bytes ≡ licence_line vendor t ++ more → cut 10 bytes ≡ Some (fields_text (licence_fields vendor t), more)
licence_cut bytes vendor t more fits is =
    ap (cut 10) (is ∙ line_parts vendor t more) ∙ cut_again 10 (fields_text (licence_fields vendor t)) more (text_free vendor t fits)

-- ---- what is told

pub breaks_first : (bytes : List ℕ) → 0 < length bytes → BeginsNoLicence bytes → BreaksAt bytes 1
breaks_first [] some none = absurd (omega (arith, some))
breaks_first (b ∷ bytes) some none = inl (none, refl)

pub breaks_behind : (bytes : List ℕ) → 0 < length bytes → GoesOn bytes → BreaksAt bytes 2
breaks_behind [] some on = absurd (omega (arith, some))
breaks_behind (b ∷ bytes) some on = inr (on, refl)

-- nothing is cut where there is no such byte
pub begins_none : (bytes : List ℕ) → None ≡ cut 10 bytes → BeginsNoLicence bytes
begins_none bytes none vendor terms more fits is = nothing (none ∙ licence_cut bytes vendor terms more fits is)
  where
    nothing : {x : List ℕ × List ℕ} → None ≡ Some x → ⊥
    nothing e = cc

pub begins_other : (bytes line rest : List ℕ) → Some (line, rest) ≡ cut 10 bytes → ((vendor : List ℕ) (terms : Issuing) → LicenceFits vendor terms → line ≡ fields_text (licence_fields vendor terms) → ⊥)
    → BeginsNoLicence bytes
begins_other bytes line rest is none vendor terms more fits begins =
    let same = same_Some (line, rest) (fields_text (licence_fields vendor terms), more) (is ∙ licence_cut bytes vendor terms more fits begins) in
    none vendor terms fits (ap (λ (x : List ℕ × List ℕ). x.0) same)

-- a line that was cut off, and what follows
pub line_whole : (bytes line rest vendor : List ℕ) (terms : Issuing) → Some (line, rest) ≡ cut 10 bytes → line ≡ fields_text (licence_fields vendor terms) → bytes ≡ licence_line vendor terms ++ rest
line_whole bytes line rest vendor terms is spelled =
    cut_sound 10 bytes line rest (sym is) ∙ ap (λ (l : List ℕ). l ++ 10 ∷ rest) spelled ∙ sym (line_parts vendor terms rest)

-- ---- the words of a line

pub no_words : (line : List ℕ) → None ≡ fields_of line → (vendor : List ℕ) (t : Issuing) → LicenceFits vendor t → line ≡ fields_text (licence_fields vendor t) → ⊥
no_words line none vendor t fits is = nothing (none ∙ licence_read line vendor t fits is)
  where
    nothing : {f : Fields} → None ≡ Some f → ⊥
    nothing e = cc

pub words_are : (line : List ℕ) (f : Fields) → Some f ≡ fields_of line → (vendor : List ℕ) (t : Issuing) → LicenceFits vendor t → line ≡ fields_text (licence_fields vendor t) → f ≡ licence_fields vendor t
words_are line f some vendor t fits is = same_Some f (licence_fields vendor t) (some ∙ licence_read line vendor t fits is)

pub spelled_by : (f : Fields) (vendor : List ℕ) (t : Issuing) → f ≡ licence_fields vendor t → SpellTerms f t
spelled_by f vendor t same = record {
  issuer' = ap (λ (g : Fields). g.issuer) same;
  period' = ap (λ (g : Fields). g.period) same;
  life' = ap (λ (g : Fields). g.life) same;
  scrip' = ap (λ (g : Fields). g.scrip) same;
  customer' = ap (λ (g : Fields). g.customer) same;
}

pub fields_spelled : (f : Fields) (vendor : List ℕ) (t : Issuing) → f.vendor ≡ vendor → SpellTerms f t → f ≡ licence_fields vendor t
fields_spelled f vendor t v s = λ i. record { vendor = v i; issuer = s.issuer' i; period = s.period' i; life = s.life' i; scrip = s.scrip' i; customer = s.customer' i }
