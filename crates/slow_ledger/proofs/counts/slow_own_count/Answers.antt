use Rattle.std.proofs.Common.{arith}
use Rattle.ledger_model.specs.Pieces.{own_count}
use Rattle.slow_ledger.proofs.CountLaws.{own_more}
use Rattle.slow_ledger.proofs.counts.slow_own_count.Goals as goal

pub loop-n-preserved : goal.loop-n-preserved
loop-n-preserved c =
    own_more c.args.h.now c.loop-n.n c.args.series c.loop-n.all c.pieces_at.result c.in_ok-all.all (own_count c.args.h.now c.args.series) (omega arith) c.loop-n.invariant c.pieces_at.ensures c.in_ok-all.ensures
