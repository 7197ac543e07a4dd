use Rattle.std.proofs.Common.{◌≡◌, take, false, eqb}
use Rattle.std.specs.List.{list_any}
use Rattle.mc_records.specs.PieceViews.{pieces_of}
use Rattle.ledger_model.specs.Stock.{ids_of}
use Rattle.slow_ledger.proofs.stock.first_have_id.Given as goal

abbrev pub invariant-loop-k : goal.invariant-loop-k
invariant-loop-k l = list_any (λ i. eqb i l.id) (ids_of (take l.k (pieces_of l.pieces))) ≡ false
