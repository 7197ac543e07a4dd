-- The licences of a broker, by the places of their vendors.
use Rattle.std.specs.Prelude.{◌≡◌, ℕ, ◌<◌, List, length, option_and_then, Some, IfSome, slice_get, vec_len, vec_capacity}
use Rattle.scrip_form.specs.Issuing.{Issuing}
use Rattle.mc_records.specs.Entry.{Entry, Licence}
use Rattle.ledger_model.specs.Histories.{History}
use Rattle.ledger_model.specs.Stock.{licence_in}
use Rattle.name_places.specs.NamePlaces.{NamePlacesView, place_of}
use Rattle.counted_trade.specs.declared.licences.Licences.{Licences}

-- in the place of each vendor with a licence stand its terms
pub record TermsStand (places : NamePlacesView) (terms : List Issuing) (h : History) : Type 0 where
  pub is : (vendor : List ℕ) → option_and_then (slice_get terms) (place_of places vendor) ≡ licence_in h vendor
  pub within : (vendor : List ℕ) → IfSome (place_of places vendor) (λ i. i < length terms)

abbrev pub LicencesStand : Licences → History → Type 0
LicencesStand l h = TermsStand l.places l.terms.items h

-- there is room for what an entry adds
abbrev pub HasRoomToLicense : Licences → Entry → Type 0
HasRoomToLicense l (Licence m vendor terms) = (vec_len l.terms < vec_capacity l.terms) × (l.places.room ≡ Some vendor)
HasRoomToLicense l _ = Unit {0}
