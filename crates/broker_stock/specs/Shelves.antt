-- Racks by the value of their pieces.
use Rattle.std.specs.Prelude.{[], ℕ, ◌==◌, Bool, List, Option, option_map, unwrap_or, is_some}
use Rattle.std.specs.Map.{lookup}
use Rattle.broker_stock.specs.declared.piece.StockPiece.{StockPiece}
use Rattle.broker_stock.specs.Racks.{RackView}

-- the rack of a value, where there is one
abbrev pub rack_at : List (ℕ × RackView) → ℕ → Option RackView
rack_at racks value = lookup (λ v. value == v) racks

-- whether a value has a rack
unfoldable pub has_rack : List (ℕ × RackView) → ℕ → Bool
has_rack racks value = is_some (rack_at racks value)

-- the pieces of a value, in the order in which they came
unfoldable pub pieces_at : List (ℕ × RackView) → ℕ → List StockPiece
pieces_at racks value = unwrap_or (option_map (λ r. r.pieces) (rack_at racks value)) []

-- for how many more pieces of a value there is room
unfoldable pub room_at : List (ℕ × RackView) → ℕ → ℕ
room_at racks value = unwrap_or (option_map (λ r. r.room) (rack_at racks value)) 0
