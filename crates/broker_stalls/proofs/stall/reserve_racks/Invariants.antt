use Rattle.std.proofs.Common.{◌≡◌, ℕ, ◌≤◌, ◌⊎◌, length}
use Rattle.mc_records.specs.PieceViews.{pieces_of}
use Rattle.broker_stock.specs.Shelves.{pieces_at, room_at}
use Rattle.broker_stalls.specs.Listed.{listed_at}
use Rattle.broker_stalls.proofs.stall.reserve_racks.Given as goal

-- a value of which no piece came yet has them all among those that are left, and any other has room for all
abbrev pub invariant-loop-rest : goal.invariant-loop-rest
invariant-loop-rest l = record {
  room : (v : ℕ) → (listed_at v (pieces_of l.pieces) ≡ listed_at v (pieces_of l.list)) ⊎ (length (listed_at v (pieces_of l.pieces)) ≤ room_at l.racks v);
  pieces : (v : ℕ) → pieces_at l.racks v ≡ pieces_at l.initial.racks v;
}

abbrev pub decreases-loop-rest : goal.decreases-loop-rest
decreases-loop-rest l = length (pieces_of l.list)
