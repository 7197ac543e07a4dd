-- The pieces of one value that a broker has in stock.
use Rattle.std.specs.Prelude.{[], ◌≡◌, ◌<◌, ◌≤◌, length, ℕ, zero, suc, Bool, true, false, nat_lt, if◌then◌else◌, List, ◌∷◌, slice_index_or}
use Rattle.broker_stock.specs.declared.piece.StockPiece.{StockPiece}

-- the pieces that were not sold, in the order of entry, and how many more there is room for
pub record RackView : Type 0 where
  pub pieces : List StockPiece
  pub room : ℕ

-- whether a piece in stock is for sale: it has not ended
abbrev pub is_open : ℕ → StockPiece → Bool
is_open t p = nat_lt t p.expires

-- the pieces that are left when the first one that is for sale is sold
abbrev pub sold_first : ℕ → List StockPiece → List StockPiece
sold_first t [] = []
sold_first t (p ∷ ps) = if is_open t p then ps else p ∷ sold_first t ps

-- the first pieces, so many of them, are not for sale
abbrev pub AreClosed : ℕ → ℕ → List StockPiece → Type 0
AreClosed t zero ps = Unit {0}
AreClosed t (suc n) [] = ⊥
AreClosed t (suc n) (p ∷ ps) = (is_open t p ≡ false) × AreClosed t n ps

-- so many of the first pieces were passed over at a moment
pub record IsPassed (noted ended : ℕ) (pieces : List StockPiece) : Type 0 where
  pub within : ended ≤ length pieces
  pub closed : AreClosed noted ended pieces

-- the first piece that is for sale stands at a place
pub record IsFirstOpen (t : ℕ) (pieces : List StockPiece) (place : ℕ) : Type 0 where
  pub within : place < length pieces
  pub before : AreClosed t place pieces
  pub piece : StockPiece
  pub there : piece ≡ slice_index_or pieces place piece
  pub open' : is_open t piece ≡ true
