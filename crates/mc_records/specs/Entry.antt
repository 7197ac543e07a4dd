-- The entries of a history and the payload of each.
use Rattle.std.specs.Prelude.{◌≡◌, ℕ, zero, suc, ◌<◌, ◌≤◌, ◌^◌, Bool, List, [], ◌∷◌, ◌++◌, length, Option, Some, None, IfSome, flat_map}
use Rattle.std.specs.List.{AllByRecursion}
use Rattle.mc_fields.specs.Field.{one, two, four, eight, Field, number, flag, str, plain, spelled, optional_fields}
use Rattle.mc_base.specs.declared.amount.TheConstants.Amount.{MOST}
use Rattle.scrip_form.specs.Texts.{IsName, IsTarget}
use Rattle.scrip_form.specs.Scrip.{IsScripText}
use Rattle.scrip_form.specs.Issuing.{Issuing, HasPeriod}
use Rattle.mc_records.specs.declared.ranges.TheConstants.{CHAIN_BYTES, LEAST_KEEP, MOST_CONTENTS, MOST_KEEP, MOST_PIECES}

-- what was sold for an accepted piece: goods, scrip of another house, or credit in an account
pub data Deed : Type 0 where
  goods_deed : Deed
  sale : (stock : Bool) (id : ℕ) → Deed
  credit : (balance : ℕ) → Deed

-- what a site that is a house is founded with: its keeping time, its fee, whether it takes requests
-- without a signature, and its own terms
pub record House : Type 0 where
  pub keep : ℕ
  pub fee : ℕ
  pub clear : Bool
  pub terms : Issuing

-- a scrip text with the customer secret of its piece
pub record Held : Type 0 where
  pub text : List ℕ
  pub secret : List ℕ

pub data Entry : Type 0 where
  Site : (moment kind : ℕ) (name : List ℕ) (house : Option House) → Entry
  AddTerms : (moment : ℕ) (terms : Issuing) → Entry
  Goods : (moment : ℕ) (target : List ℕ) (price kind : ℕ) (contents : List ℕ) → Entry
  Accept : (moment : ℕ) (scrip target : List ℕ) (sign : Option (List ℕ)) (price : ℕ) (change : Option ℕ) (deed : Deed) → Entry
  Mint : (moment : ℕ) (reference : List ℕ) (count value first : ℕ) → Entry
  Account : (moment : ℕ) (name key : List ℕ) → Entry
  Deposit : (moment : ℕ) (name : List ℕ) (amount : ℕ) (reference : List ℕ) → Entry
  Withdraw : (moment : ℕ) (name : List ℕ) (amount : ℕ) (reference : List ℕ) → Entry
  Draw : (moment : ℕ) (target sign : List ℕ) (drawn : ℕ) → Entry
  Licence : (moment : ℕ) (vendor : List ℕ) (terms : Issuing) → Entry
  Stock : (moment : ℕ) (vendor : List ℕ) (pieces : List Held) → Entry
  Got : (moment : ℕ) (pieces : List Held) → Entry
  Pend : (moment ask : ℕ) (peer target : List ℕ) (scrip : Option (List ℕ)) (secret : List ℕ) → Entry
  Done : (moment number price : ℕ) (change : Option (List ℕ)) (got : Option Held) → Entry
  Refused : (moment number refusal : ℕ) → Entry
  Upgrade : (moment : ℕ) (vendor : List ℕ) (issuer from : ℕ) → Entry
  Switch : (moment : ℕ) (chain : List ℕ) → Entry
  Note : (moment : ℕ) (tag bytes : List ℕ) → Entry

-- ---- the table of fields

abbrev pub sign_fields : Option (List ℕ) → List Field
sign_fields sign = optional_fields (λ s. plain s ∷ []) sign

abbrev pub change_fields : Option ℕ → List Field
change_fields change = optional_fields (λ id. number eight id ∷ []) change

abbrev pub deed_fields : Deed → List Field
deed_fields goods_deed = number one 0 ∷ []
deed_fields (sale stock id) = number one 1 ∷ flag stock ∷ number eight id ∷ []
deed_fields (credit balance) = number one 2 ∷ number eight balance ∷ []

abbrev pub secrets_fields : List (List ℕ) → List Field
secrets_fields secrets = number one (length secrets) ∷ flat_map (λ s. plain s ∷ []) secrets

abbrev pub terms_fields : Issuing → List Field
terms_fields t = number one 1 ∷ number one t.issuer ∷ number four t.period ∷ number four t.life ∷ (secrets_fields t.scrip ++ secrets_fields t.customer)

abbrev pub house_fields : Option House → List Field
house_fields None = []
house_fields (Some h) = number four h.keep ∷ number eight h.fee ∷ flag h.clear ∷ terms_fields h.terms

abbrev pub held_fields : Held → List Field
held_fields p = str p.text ∷ plain p.secret ∷ []

abbrev pub pieces_fields : List Held → List Field
pieces_fields pieces = number two (length pieces) ∷ flat_map held_fields pieces

abbrev pub text_fields : Option (List ℕ) → List Field
text_fields text = optional_fields (λ s. str s ∷ []) text

abbrev pub got_fields : Option Held → List Field
got_fields got = optional_fields held_fields got

-- kind and moment, then the fields of the kind
abbrev pub fields : Entry → List Field
fields (Site m kind name house) = number one 1 ∷ number eight m ∷ number one kind ∷ str name ∷ house_fields house
fields (AddTerms m terms) = number one 2 ∷ number eight m ∷ terms_fields terms
fields (Goods m target price kind contents) =
    number one 3 ∷ number eight m ∷ str target ∷ number eight price ∷ number one kind ∷ number four (length contents) ∷ plain contents ∷ []
fields (Accept m scrip target sign price change deed) =
    number one 4 ∷ number eight m ∷ str scrip ∷ str target ∷ (sign_fields sign ++ (number eight price ∷ (change_fields change ++ deed_fields deed)))
fields (Mint m reference count value first) =
    number one 5 ∷ number eight m ∷ str reference ∷ number two count ∷ number eight value ∷ number eight first ∷ []
fields (Account m name key) = number one 6 ∷ number eight m ∷ str name ∷ plain key ∷ []
fields (Deposit m name amount reference) = number one 7 ∷ number eight m ∷ str name ∷ number eight amount ∷ str reference ∷ []
fields (Withdraw m name amount reference) = number one 8 ∷ number eight m ∷ str name ∷ number eight amount ∷ str reference ∷ []
fields (Draw m target sign drawn) = number one 9 ∷ number eight m ∷ str target ∷ plain sign ∷ number eight drawn ∷ []
fields (Licence m vendor terms) = number one 10 ∷ number eight m ∷ str vendor ∷ terms_fields terms
fields (Stock m vendor pieces) = number one 11 ∷ number eight m ∷ str vendor ∷ pieces_fields pieces
fields (Got m pieces) = number one 12 ∷ number eight m ∷ pieces_fields pieces
fields (Pend m ask peer target scrip secret) =
    number one 13 ∷ number eight m ∷ number one ask ∷ str peer ∷ str target ∷ (text_fields scrip ++ (plain secret ∷ []))
fields (Done m n price change got) = number one 14 ∷ number eight m ∷ number eight n ∷ number eight price ∷ (text_fields change ++ got_fields got)
fields (Refused m n refusal) = number one 15 ∷ number eight m ∷ number eight n ∷ number two refusal ∷ []
fields (Upgrade m vendor issuer from) = number one 16 ∷ number eight m ∷ str vendor ∷ number one issuer ∷ number four from ∷ []
fields (Switch m chain) = number one 17 ∷ number eight m ∷ plain chain ∷ []
fields (Note m tag bytes) = number one 18 ∷ number eight m ∷ str tag ∷ number four (length bytes) ∷ plain bytes ∷ []

abbrev pub payload : Entry → List ℕ
payload e = spelled (fields e)

-- ---- ranges

abbrev pub IsMoment : ℕ → Type 0
IsMoment m = m < 2 ^ 35

abbrev pub IsAmount : ℕ → Type 0
IsAmount n = (1 ≤ n) × (n ≤ MOST)

abbrev pub IsLong : ℕ → Type 0
IsLong n = n < 2 ^ 64

-- 32 bytes
abbrev pub IsChain : List ℕ → Type 0
IsChain chain = length chain ≡ CHAIN_BYTES

-- 16 bytes
abbrev pub IsKey : List ℕ → Type 0
IsKey key = length key ≡ 16

pub record AreSecrets (secrets : List (List ℕ)) : Type 0 where
  pub some : 1 ≤ length secrets
  pub few : length secrets ≤ 16
  pub keys : AllByRecursion IsKey secrets

-- terms of an issuer from the lowest to the highest
pub record AreTerms (lowest highest : ℕ) (t : Issuing) : Type 0 where
  pub issuer : (lowest ≤ t.issuer) × (t.issuer ≤ highest)
  pub period : HasPeriod t.period t.life
  pub scrip : AreSecrets t.scrip
  pub customer : AreSecrets t.customer

abbrev pub DeedFits : Deed → Type 0
DeedFits goods_deed = Unit {0}
DeedFits (sale stock id) = IsLong id
DeedFits (credit balance) = IsLong balance

-- a keeping time of 60 to 86,400 seconds, and the house's own terms, which are issuer 0's
pub record HouseFits (most : ℕ) (h : House) : Type 0 where
  pub keep : (LEAST_KEEP ≤ h.keep) × (h.keep ≤ MOST_KEEP)
  pub fee : h.fee ≤ most
  pub terms : AreTerms 0 0 h.terms

-- A site of kind 0 is a vendor, which takes no fee; 1 is a broker; 2 is a wallet, which is no house.
abbrev pub SiteFits : ℕ → Option House → Type 0
SiteFits zero (Some h) = HouseFits 0 h
SiteFits (suc zero) (Some h) = HouseFits MOST h
SiteFits (suc (suc zero)) None = Unit {0}
SiteFits _ _ = ⊥

pub record HeldFits (p : Held) : Type 0 where
  pub text : IsScripText p.text
  pub secret : IsKey p.secret

pub record ArePieces (pieces : List Held) : Type 0 where
  pub some : 1 ≤ length pieces
  pub few : length pieces ≤ MOST_PIECES
  pub held : AllByRecursion HeldFits pieces

-- what has a payload
abbrev pub Fits : Entry → Type 0
Fits (Site m kind name house) = record { moment : IsMoment m; name : IsName name; house : SiteFits kind house }
Fits (AddTerms m terms) = record { moment : IsMoment m; terms : AreTerms 1 255 terms }
Fits (Goods m target price kind contents) =
    record { moment : IsMoment m; target : IsTarget target; price : IsAmount price; kind : kind < 3; contents : length contents ≤ MOST_CONTENTS }
Fits (Accept m scrip target sign price change deed) =
    record { moment : IsMoment m; scrip : IsScripText scrip; target : IsTarget target; sign : IfSome sign IsKey; price : IsLong price; change : IfSome change IsLong; deed : DeedFits deed }
Fits (Mint m reference count value first) =
    record { moment : IsMoment m; reference : IsName reference; count : (1 ≤ count) × (count ≤ MOST_PIECES); value : IsAmount value; first : IsLong first }
Fits (Account m name key) = record { moment : IsMoment m; name : IsName name; key : IsKey key }
Fits (Deposit m name amount reference) = record { moment : IsMoment m; name : IsName name; amount : IsAmount amount; reference : IsName reference }
Fits (Withdraw m name amount reference) = record { moment : IsMoment m; name : IsName name; amount : IsAmount amount; reference : IsName reference }
Fits (Draw m target sign drawn) = record { moment : IsMoment m; target : IsTarget target; sign : IsKey sign; drawn : IsLong drawn }
Fits (Licence m vendor terms) = record { moment : IsMoment m; vendor : IsName vendor; terms : AreTerms 1 255 terms }
Fits (Stock m vendor pieces) = record { moment : IsMoment m; vendor : IsName vendor; pieces : ArePieces pieces }
Fits (Got m pieces) = record { moment : IsMoment m; pieces : ArePieces pieces }
Fits (Pend m ask peer target scrip secret) =
    record { moment : IsMoment m; ask : ask < 3; peer : IsName peer; target : IsTarget target; scrip : IfSome scrip IsScripText; secret : IsKey secret }
Fits (Done m n price change got) =
    record { moment : IsMoment m; number : IsLong n; price : IsLong price; change : IfSome change IsScripText; got : IfSome got HeldFits }
Fits (Refused m n refusal) = record { moment : IsMoment m; number : IsLong n; refusal : refusal < 2 ^ 16 }
Fits (Upgrade m vendor issuer from) = record { moment : IsMoment m; vendor : IsName vendor; issuer : issuer < 2 ^ 8; from : from < 2 ^ 24 }
Fits (Switch m chain) = record { moment : IsMoment m; chain : IsChain chain }
Fits (Note m tag bytes) = record { moment : IsMoment m; tag : IsName tag; bytes : length bytes ≤ MOST_CONTENTS }

abbrev pub moment_of : Entry → ℕ
moment_of (Site m kind name house) = m
moment_of (AddTerms m terms) = m
moment_of (Goods m target price kind contents) = m
moment_of (Accept m scrip target sign price change deed) = m
moment_of (Mint m reference count value first) = m
moment_of (Account m name key) = m
moment_of (Deposit m name amount reference) = m
moment_of (Withdraw m name amount reference) = m
moment_of (Draw m target sign drawn) = m
moment_of (Licence m vendor terms) = m
moment_of (Stock m vendor pieces) = m
moment_of (Got m pieces) = m
moment_of (Pend m ask peer target scrip secret) = m
moment_of (Done m n price change got) = m
moment_of (Refused m n refusal) = m
moment_of (Upgrade m vendor issuer from) = m
moment_of (Switch m chain) = m
moment_of (Note m tag bytes) = m
