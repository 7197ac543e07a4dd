-- The piece to pay with, among those in memory.
use Rattle.std.specs.Prelude.{◌≡◌, ℕ, ◌<◌, nat_lt, nat_le, if◌then◌else◌, Bool, true, false, List, map, filter, filter_map, slice_get, Option, Some, None, Result, Ok, Err}
use Rattle.std.specs.List.{enumerate_from, reduce}
use Rattle.mc_requests.specs.declared.refusal.Refusal.{Refusal}
use Rattle.mc_requests.specs.declared.refusal.Refusal.TheVariants.{NoFunds}
use Rattle.wallet_model.specs.Asks.{Offered, offered_at, is_fit, greatest_value}
use Rattle.wallet_book.specs.declared.holding.Holding.{Holding}
use Rattle.wallet_book.specs.declared.holding.State.TheVariants.{Held}
use Rattle.wallet_book.specs.Holdings.{holding_of}

-- those that are held, of a vendor, and not expired at a time, with their places
abbrev pub fit_among : List Holding → ℕ → List ℕ → List Offered
fit_among xs t vendor = filter (is_fit t vendor) (filter_map offered_at (enumerate_from 0 (map holding_of xs)))

-- the place of the piece that is chosen, or the refusal
abbrev pub Chooses : Result Offered Refusal → Result ℕ Refusal → Type 0
Chooses (Ok o) result = result ≡ Ok o.place
Chooses (Err f) result = result ≡ Err f

-- 62 NoFunds, with whatever value
abbrev pub IsNoFunds : Refusal → Type 0
IsNoFunds (NoFunds greatest) = Unit {0}
IsNoFunds _ = ⊥

-- ---- on the way

-- what a piece is chosen by
abbrev pub value_of : Offered → ℕ
value_of o = o.piece.value

abbrev pub end_of : Offered → ℕ
end_of o = o.piece.expires

-- it covers a limit
abbrev pub covers : ℕ → Offered → Bool
covers limit o = nat_le limit o.piece.value

-- it ends at a moment at the latest
abbrev pub ends_by : ℕ → Offered → Bool
ends_by before o = nat_le o.piece.expires before

-- the one of the less key, and of two of the same key the first
abbrev pub lesser_by : (Offered → ℕ) → Offered → Offered → Offered
lesser_by key a b = if nat_lt (key b) (key a) then b else a

-- the place and the key of an offered piece
abbrev pub IsOffer : (Offered → ℕ) → Option Offered → Option (ℕ × ℕ) → Type 0
IsOffer key None least = least ≡ None
IsOffer key (Some o) least = least ≡ Some (o.place, key o)

-- the one of the least key among those of some pieces that count
abbrev pub IsLeast : (Offered → ℕ) → (Offered → Bool) → List Offered → Option (ℕ × ℕ) → Type 0
IsLeast key counts fit least = IsOffer key (reduce (lesser_by key) (filter counts fit)) least

-- the one of the least key of those before, if there is one, and a place with a key, if that counts
abbrev pub least_with : Bool → Option (ℕ × ℕ) → ℕ → ℕ → Option (ℕ × ℕ)
least_with true None place key = Some (place, key)
least_with true (Some x) place key = if nat_lt key x.1 then Some (place, key) else Some x
least_with false least place key = least

-- what was seen of some pieces: the one of least value that covers a limit, and the greatest value
pub record HasSeen (fit : List Offered) (limit : ℕ) (least : Option (ℕ × ℕ)) (greatest : ℕ) : Type 0 where
  pub least' : IsLeast value_of (covers limit) fit least
  pub greatest' : greatest ≡ greatest_value fit

-- ---- a piece that is fit, by its place

-- the piece of a place is held, of a vendor, and not expired at a time
pub record IsFitAt (xs : List Holding) (t : ℕ) (vendor : List ℕ) (place : ℕ) : Type 0 where
  pub holding : Holding
  pub here : slice_get xs place ≡ Some holding
  pub held' : holding.state ≡ Held
  pub vendor' : holding.piece.vendor ≡ vendor
  pub in_time : t < holding.piece.expires

-- so is that of a place with a key, where there is one
abbrev pub IsFitOne : List Holding → ℕ → List ℕ → Option (ℕ × ℕ) → Type 0
IsFitOne xs t vendor None = Unit {0}
IsFitOne xs t vendor (Some x) = IsFitAt xs t vendor x.0

-- of the pieces up to a place: the one that ends first of those that end in time, which is fit
pub record HasFirst (xs : List Holding) (t : ℕ) (vendor : List ℕ) (fit : List Offered) (before : ℕ) (first : Option (ℕ × ℕ)) : Type 0 where
  pub first' : IsLeast end_of (ends_by before) fit first
  pub fit' : IsFitOne xs t vendor first
