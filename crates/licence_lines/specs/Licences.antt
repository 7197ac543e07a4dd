-- Licence lines: the terms under which a broker makes a vendor's scrip, as the vendor gives them.
use Rattle.std.specs.Prelude.{◌≡◌, ◌⊎◌, ℕ, ◌<◌, List, [], ◌∷◌, ◌++◌, length, codes, decimal, Result, Ok, Err}
use Rattle.mc_fields.specs.Texts.{IsNumber}
use Rattle.scrip_form.specs.Issuing.{Issuing}
use Rattle.scrip_form.specs.Texts.{IsName}
use Rattle.command_table.specs.Ranges.{AreTerms, joined}

-- The line of a licence: the vendor, the issuer, the period and the life of its series, its secrets of scrip
-- and of customers, as words are spelled.
abbrev pub licence_line : List ℕ → Issuing → List ℕ
licence_line vendor t =
    codes "licence " ++ vendor ++ codes " " ++ decimal t.issuer ++ codes " " ++ decimal t.period ++ codes " " ++ decimal t.life
    ++ codes " " ++ joined t.scrip ++ codes " " ++ joined t.customer ++ codes "\n"

-- a vendor's licence: his name, and terms of an issuer from 1 to 255
pub record LicenceFits (vendor : List ℕ) (terms : Issuing) : Type 0 where
  pub vendor' : IsName vendor
  pub issuer : IsNumber 255 terms.issuer
  pub terms' : AreTerms terms

-- the bytes are the line of a vendor's licence
pub record IsLicenceLine (bytes vendor : List ℕ) (terms : Issuing) : Type 0 where
  pub fits : LicenceFits vendor terms
  pub spelled : bytes ≡ licence_line vendor terms

-- the bytes begin with no such line
abbrev pub BeginsNoLicence : List ℕ → Type 0
BeginsNoLicence bytes = (vendor : List ℕ) (terms : Issuing) (more : List ℕ) → LicenceFits vendor terms → bytes ≡ licence_line vendor terms ++ more → ⊥

-- more bytes follow such a line
pub record GoesOn (bytes : List ℕ) : Type 0 where
  pub vendor : List ℕ
  pub terms : Issuing
  pub more : List ℕ
  pub fits : LicenceFits vendor terms
  pub spelled : bytes ≡ licence_line vendor terms ++ more
  pub some : 0 < length more

-- The line at which an input breaks, which is to be one licence line: 0 for an empty input, 1 where it begins with no
-- such line, 2 where more bytes follow.
abbrev pub BreaksAt : List ℕ → ℕ → Type 0
BreaksAt [] line = line ≡ 0
BreaksAt (b ∷ bytes) line = (BeginsNoLicence (b ∷ bytes) × (line ≡ 1)) ⊎ (GoesOn (b ∷ bytes) × (line ≡ 2))

-- the licence of an input, or the line at which it breaks
abbrev pub IsTold : List ℕ → Result (List ℕ × Issuing) ℕ → Type 0
IsTold bytes (Ok x) = IsLicenceLine bytes x.0 x.1
IsTold bytes (Err line) = BreaksAt bytes line
