use Rattle.std.proofs.Common.{sym, ◌∙◌, arith}
use Rattle.broker_stock.proofs.RackLaws.{passed_more}
use Rattle.broker_stock.proofs.rack.place_of_open.Goals as goal

pub loop-place-preserved : goal.loop-place-preserved
loop-place-preserved c =
    passed_more c.args.now c.loop-place.place c.args.pieces.now.items c.index.result.now (omega arith) c.index.ensures (sym c.is_open.ensures ∙ c.if-is_open.false) c.loop-place.invariant
