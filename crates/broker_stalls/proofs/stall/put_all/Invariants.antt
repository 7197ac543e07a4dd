use Rattle.std.proofs.Common.{◌≡◌, ℕ, ◌≤◌, ◌++◌, ◌||◌, eqb, length}
use Rattle.std.specs.List.{list_any}
use Rattle.mc_records.specs.PieceViews.{pieces_of}
use Rattle.ledger_model.specs.Stock.{ids_of}
use Rattle.broker_stock.specs.Shelves.{pieces_at, room_at}
use Rattle.broker_stalls.specs.Stalls.{has_id}
use Rattle.broker_stalls.specs.Listed.{listed_at}
use Rattle.broker_stalls.proofs.stall.put_all.Given as goal

-- with the pieces that are left, all is as it will be
abbrev pub invariant-loop-rest : goal.invariant-loop-rest
invariant-loop-rest l = record {
  space : length (pieces_of l.list) ≤ l.ids.room;
  room : (v : ℕ) → length (listed_at v (pieces_of l.list)) ≤ room_at l.racks v;
  known : (id : ℕ) → (has_id l.ids id || list_any (λ k. eqb id k) (ids_of (pieces_of l.list)))
      ≡ (has_id l.initial.ids id || list_any (λ k. eqb id k) (ids_of (pieces_of l.pieces)));
  stocked : (v : ℕ) → pieces_at l.racks v ++ listed_at v (pieces_of l.list) ≡ pieces_at l.initial.racks v ++ listed_at v (pieces_of l.pieces);
}

abbrev pub decreases-loop-rest : goal.decreases-loop-rest
decreases-loop-rest l = length (pieces_of l.list)
