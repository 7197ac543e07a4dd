use Rattle.std.proofs.Common.{arith, true, false}
use Rattle.mc_records.specs.PieceViews.{pieces_of}
use Rattle.ledger_model.specs.Stock.{stock_ids, ids_of, are_new}
use Rattle.slow_ledger.proofs.NewLaws.{new_more}
use Rattle.slow_ledger.proofs.stock.all_new.Goals as goal

pub returns-then-not-new_at : goal.returns-then-not-new_at
returns-then-not-new_at c =
    let known = stock_ids c.args.h.now c.args.vendor.now in
    new_more known (pieces_of c.args.pieces.now) c.loop-k.k false (are_new known (ids_of (pieces_of c.args.pieces.now))) (omega arith) c.loop-k.invariant c.if-not-new_at.ensures

pub loop-k-preserved : goal.loop-k-preserved
loop-k-preserved c =
    let known = stock_ids c.args.h.now c.args.vendor.now in
    new_more known (pieces_of c.args.pieces.now) c.loop-k.k true (are_new known (ids_of (pieces_of c.args.pieces.now))) (omega arith) c.loop-k.invariant c.if-not-new_at.ensures
