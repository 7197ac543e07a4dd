use Rattle.std.proofs.Common.{◌≡◌, take, drop}
use Rattle.mc_records.specs.PieceViews.{pieces_of}
use Rattle.ledger_model.specs.Stock.{stock_ids, ids_of, are_new}
use Rattle.slow_ledger.proofs.NewLaws.{known_after}
use Rattle.slow_ledger.proofs.stock.all_new.Given as goal

abbrev pub invariant-loop-k : goal.invariant-loop-k
invariant-loop-k l =
    are_new (known_after (stock_ids l.h l.vendor) (ids_of (take l.k (pieces_of l.pieces)))) (ids_of (drop l.k (pieces_of l.pieces))) ≡ are_new (stock_ids l.h l.vendor) (ids_of (pieces_of l.pieces))
