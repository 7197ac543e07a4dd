-- What a broker has of one vendor to sell.
use Rattle.std.specs.Prelude.{ℕ, ◌==◌, ◌||◌, ◌<◌, ◌≤◌, ◌^◌, ◌≡◌, not, Bool, IsTrue, IfSome, List, [], length, Option, None, option_map, unwrap_or, is_some}
use Rattle.std.specs.List.{list_any}
use Rattle.scrip_form.specs.Issuing.{Issuing, HasPeriod}
use Rattle.change_issue.specs.Registers.{Register, has_room, count_in}
use Rattle.broker_stock.specs.declared.piece.StockPiece.{StockPiece}
use Rattle.broker_stock.specs.Racks.{RackView}
use Rattle.broker_stock.specs.Shelves.{pieces_at}

-- identities, in no order, and for how many more there is room
pub record StockIdsView : Type 0 where
  pub ids : List ℕ
  pub room : ℕ

-- whether an identity is there
unfoldable pub has_id : StockIdsView → ℕ → Bool
has_id s id = list_any (λ k. id == k) s.ids

-- no identities
abbrev pub no_ids : StockIdsView
no_ids = record { ids = []; room = 0 }

-- A stall: what is sold under a licence, where there is one; the identities of all pieces that ever were in stock;
-- and the pieces in stock by their value, which were not sold.
pub record StallView : Type 0 where
  pub licence : Option Register
  pub ids : StockIdsView
  pub racks : List (ℕ × RackView)

-- a stall with nothing
abbrev pub empty_stall : StallView
empty_stall = record { licence = None; ids = no_ids; racks = [] }

-- the terms of the licence
abbrev pub terms_of : StallView → Option Issuing
terms_of s = option_map (λ r. r.terms) s.licence

-- how many pieces of a series were sold under the licence
abbrev pub sold_count : StallView → ℕ → ℕ
sold_count s series = unwrap_or (option_map (λ r. count_in r series) s.licence) 0

-- whether a piece of an identity was ever in stock
abbrev pub was_stocked : StallView → ℕ → Bool
was_stocked s id = has_id s.ids id

-- the pieces of a value in stock, in the order of entry
abbrev pub stocked_at : StallView → ℕ → List StockPiece
stocked_at s value = pieces_at s.racks value

-- whether a vendor has a licence or had stock
abbrev pub is_known : StallView → Bool
is_known s = is_some s.licence || not (length s.ids.ids == 0)

-- Under a licence at most 2^32 pieces of a series are sold, all that a series has.
pub record IsWithin (r : Register) : Type 0 where
  pub most : r.most ≡ 2 ^ 32
  pub below : (series : ℕ) → count_in r series ≤ 2 ^ 32
  pub period : HasPeriod r.terms.period r.terms.life

-- there is room for one more piece of a series under a licence
pub record HasPlace (series : ℕ) (r : Register) : Type 0 where
  pub room : IsTrue (has_room r series)
  pub left : count_in r series < 2 ^ 32

-- where there is a licence, there is room for one more piece of a series
abbrev pub HasSeries : StallView → ℕ → Type 0
HasSeries s series = IfSome s.licence (HasPlace series)

-- two stalls tell the same
pub record IsAlike (s s' : StallView) : Type 0 where
  pub terms : terms_of s' ≡ terms_of s
  pub counts : (series : ℕ) → sold_count s' series ≡ sold_count s series
  pub ids : (id : ℕ) → was_stocked s' id ≡ was_stocked s id
  pub pieces : (value : ℕ) → stocked_at s' value ≡ stocked_at s value
  pub known : is_known s' ≡ is_known s
