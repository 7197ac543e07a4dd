-- A stall as what a history says of a vendor.
use Rattle.std.specs.Prelude.{◌≡◌, ℕ, ◌==◌, Bool, true, false, not, IsTrue, List, filter, Option, None, Some}
use Rattle.std.specs.List.{list_any, AllByRecursion}
use Rattle.ledger_model.specs.Histories.{History}
use Rattle.ledger_model.specs.Stock.{Sale, is_of_vendor, stock_in, stock_ids, stock_pieces, may_be_stock, licence_in, knows_vendor, is_sold, licensed_count}
use Rattle.ledger_model.specs.Laws.{AreDistinct}
use Rattle.broker_stock.specs.declared.piece.StockPiece.{StockPiece}
use Rattle.broker_stalls.specs.Stalls.{StallView, terms_of, sold_count, was_stocked, stocked_at, is_known}
use Rattle.broker_stalls.specs.Listed.{listed_at}

-- of pieces those that were not sold, where these identities were
abbrev pub unsold : (ℕ → Bool) → List StockPiece → List StockPiece
unsold sold ps = filter (λ (p : StockPiece). not (sold p.id)) ps

-- a sale is not of a vendor, if there is one
abbrev pub IsOfOther : List ℕ → Option Sale → Type 0
IsOfOther vendor None = Unit {0}
IsOfOther vendor (Some s) = is_of_vendor vendor s ≡ false

-- A stall shows a vendor in a history: the licence and what was sold of each series under it, the identities of the
-- stock, and the pieces of each value that were not sold, in the order of entry: of what was sold the identity alone. What
-- was sold out of stock was put into it; and what was put into it may be there, each identity once.
pub record Shows (h : History) (vendor : List ℕ) (s : StallView) : Type 0 where
  pub terms : terms_of s ≡ licence_in h vendor
  pub counts : (series : ℕ) → sold_count s series ≡ licensed_count h vendor series
  pub ids : (id : ℕ) → was_stocked s id ≡ list_any (λ k. id == k) (stock_ids h vendor)
  pub pieces : (value : ℕ) → stocked_at s value ≡ unsold (is_sold h vendor) (listed_at value (stock_in h vendor))
  pub known : is_known s ≡ knows_vendor h vendor
  pub sold : (id : ℕ) → is_sold h vendor id ≡ true → list_any (λ k. id == k) (stock_ids h vendor) ≡ true
  pub fits : AllByRecursion (λ p. IsTrue (may_be_stock vendor p)) (stock_pieces h vendor)
  pub once : AreDistinct (stock_pieces h vendor)
