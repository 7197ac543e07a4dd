-- What an issuer keeps of its series: how many pieces stand in each, the sum of the coins that they
-- were issued for, and the sum that was redeemed.
use Rattle.std.specs.Prelude.{◌≡◌, ℕ, ◌+◌, Bool, ◌==◌, if◌then◌else◌, List, Option, option_map, unwrap_or, is_some}
use Rattle.std.specs.Map.{lookup}
use Rattle.scrip_form.specs.Identities.{numbered}
use Rattle.scrip_form.specs.Issuing.{Issuing}

-- what is kept of one series
pub record SeriesSheet : Type 0 where
  pub count : ℕ
  pub issued : ℕ
  pub redeemed : ℕ

-- the sheet of a series in which nothing stands
abbrev pub blank_sheet : SeriesSheet
blank_sheet = record { count = 0; issued = 0; redeemed = 0 }

-- an issuer: its terms, the most pieces of one series, and each series that has room with its sheet,
-- in no order
pub record Register : Type 0 where
  pub terms : Issuing
  pub most : ℕ
  pub sheets : List (ℕ × SeriesSheet)

-- the sheet of a series, where there is one
abbrev pub sheet_of : Register → ℕ → Option SeriesSheet
sheet_of r series = lookup (λ s. series == s) r.sheets

-- whether a series has room
unfoldable pub has_room : Register → ℕ → Bool
has_room r series = is_some (sheet_of r series)

-- a number of the sheet of a series, 0 where there is none
abbrev pub on_sheet : (SeriesSheet → ℕ) → Register → ℕ → ℕ
on_sheet number r series = unwrap_or (option_map number (sheet_of r series)) 0

-- how many pieces stand in a series: those that were issued, and those that were counted on
unfoldable pub count_in : Register → ℕ → ℕ
count_in r series = on_sheet (λ x. x.count) r series

-- the sum of the coins that the pieces of a series were issued for
unfoldable pub issued_in : Register → ℕ → ℕ
issued_in r series = on_sheet (λ x. x.issued) r series

-- the sum that was redeemed of a series
unfoldable pub redeemed_in : Register → ℕ → ℕ
redeemed_in r series = on_sheet (λ x. x.redeemed) r series

-- the identity of the next piece of a series
abbrev pub next_in : Register → ℕ → ℕ
next_in r series = numbered series (count_in r series)

-- a number of each series: n more at one series, and at the others as it was
abbrev pub IsRaisedAt : ℕ → ℕ → (ℕ → ℕ) → (ℕ → ℕ) → Type 0
IsRaisedAt series n old new = (s : ℕ) → new s ≡ old s + (if series == s then n else 0)
