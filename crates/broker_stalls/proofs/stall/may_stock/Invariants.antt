use Rattle.std.proofs.Common.{◌≡◌, ◌+◌, ◌≤◌, ◌++◌, length, take}
use Rattle.mc_records.specs.PieceViews.{pieces_of}
use Rattle.ledger_model.specs.Stock.{are_stock}
use Rattle.broker_stalls.proofs.stall.may_stock.Given as goal

-- the answer is that for the pieces that are left, where those that were seen are known too
abbrev pub invariant-loop-rest : goal.invariant-loop-rest
invariant-loop-rest l = record {
  few : l.count + length (pieces_of l.list) ≤ 256;
  same : are_stock l.vendor l.ids.ids (pieces_of l.pieces) ≡ are_stock l.vendor (take l.count l.seen ++ l.ids.ids) (pieces_of l.list);
}

abbrev pub decreases-loop-rest : goal.decreases-loop-rest
decreases-loop-rest l = length (pieces_of l.list)
