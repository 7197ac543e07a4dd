-- The stalls of all vendors, and what they are of a history.
use Rattle.std.specs.Prelude.{◌≡◌, ℕ, ◌<◌, false, IsTrue, IsNone, IsSome, IfSome, List, length, slice_get, Option, Some, None, option_map, option_and_then, unwrap_or}
use Rattle.std.specs.Borrow.{Bor}
use Rattle.scrip_form.specs.Identities.{series_of}
use Rattle.mc_requests.specs.Errands.{Errand, buy}
use Rattle.mc_records.specs.Entry.{Entry, Licence, Stock, Fits, moment_of}
use Rattle.ledger_model.specs.Histories.{History}
use Rattle.ledger_model.specs.Stock.{Sale, sale_of, licence_in, stock_ids, are_stock}
use Rattle.ledger_model.specs.Taken.{IsSupplied}
use Rattle.name_places.specs.NamePlaces.{NamePlacesView, place_of}
use Rattle.broker_stalls.specs.declared.target.Purchase.{Purchase}
use Rattle.broker_stalls.specs.Stalls.{StallView, empty_stall, HasSeries, IsAlike}
use Rattle.broker_stalls.specs.Listed.{HasRoomFor}
use Rattle.broker_stalls.specs.Shown.{Shows}

-- ---- the stalls

-- where the stall of each vendor stands, and the stalls
pub record StallsView : Type 0 where
  pub places : NamePlacesView
  pub stalls : List StallView

-- each place is that of a stall, and no two vendors have one place
pub record AreFiled (places : NamePlacesView) (stalls : List StallView) : Type 0 where
  pub within : (vendor : List ℕ) (i : ℕ) → place_of places vendor ≡ Some i → i < length stalls
  pub apart : (vendor other : List ℕ) (i : ℕ) → place_of places vendor ≡ Some i → place_of places other ≡ Some i → vendor ≡ other

-- the stall of a vendor; where none stands, one with nothing
abbrev pub stall_of : StallsView → List ℕ → StallView
stall_of s vendor = unwrap_or (option_and_then (slice_get s.stalls) (place_of s.places vendor)) empty_stall

-- a stall that was found, or else one with nothing
abbrev pub found_stall : Option (Bor StallView) → StallView
found_stall o = unwrap_or (option_map (λ s. s.now) o) empty_stall

-- Stalls represent a history: the stall of each vendor shows him. Of a vendor without one the history knows nothing.
abbrev pub StallsRepresent : StallsView → History → Type 0
StallsRepresent s h = (vendor : List ℕ) → Shows h vendor (stall_of s vendor)

-- the stalls tell the same of all vendors
abbrev pub AreAlike : StallsView → StallsView → Type 0
AreAlike s s' = (vendor : List ℕ) → IsAlike (stall_of s vendor) (stall_of s' vendor)

-- ---- room

-- a vendor has a stall
abbrev pub HasStall : StallsView → List ℕ → Type 0
HasStall s vendor = IsSome (place_of s.places vendor)

-- room to count a sale under a licence; one out of stock needs none
abbrev pub HasRoomToSell : StallsView → Sale → Type 0
HasRoomToSell s x = x.stock ≡ false → HasSeries (stall_of s x.vendor) (series_of x.id)

-- there is room for what an entry adds
abbrev pub StallsHaveRoom : StallsView → Entry → Type 0
StallsHaveRoom s (Licence m vendor terms) = HasStall s vendor
StallsHaveRoom s (Stock m vendor pieces) = HasStall s vendor × HasRoomFor (stall_of s vendor) pieces
StallsHaveRoom s e = IfSome (sale_of e) (HasRoomToSell s)

-- ---- what they are told

-- a Licence or a Stock entry is in its ranges; of others nothing is asked
abbrev pub StallFits : Entry → Type 0
StallFits (Licence m vendor terms) = Fits (Licence m vendor terms)
StallFits (Stock m vendor pieces) = Fits (Stock m vendor pieces)
StallFits _ = Unit {0}

-- What has to hold of the stalls for an entry of an operator to come next: a vendor has one licence, and what is put
-- into his stock is new and of him.
abbrev pub StallsAllow : History → Entry → Type 0
StallsAllow h (Licence m vendor terms) = IsNone (licence_in h vendor)
StallsAllow h (Stock m vendor pieces) = IsTrue (are_stock vendor (stock_ids h vendor) pieces)
StallsAllow h _ = Unit {0}

-- What holds of the stalls where a sale was answered under some limit of a series: the piece is the next one under the
-- licence, or there is none and it is the first of the stock that is for sale.
abbrev pub StallsAnswer : ℕ → History → Entry → Type 0
StallsAnswer most h e = IfSome (sale_of e) (λ x. IsSupplied most h (moment_of e) x.vendor x.value x.stock x.id)

-- what an errand asks to buy
abbrev pub asked_to_buy : Option Errand → Option Purchase
asked_to_buy (Some (buy vendor amount)) = Some (record { vendor = vendor; value = amount })
asked_to_buy _ = None
