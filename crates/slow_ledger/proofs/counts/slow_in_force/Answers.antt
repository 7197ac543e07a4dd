use Rattle.std.proofs.Common.{arith}
use Rattle.ledger_model.specs.Goods.{in_force}
use Rattle.slow_ledger.proofs.CountLaws.{in_force_more}
use Rattle.slow_ledger.proofs.counts.slow_in_force.Goals as goal

pub loop-n-preserved : goal.loop-n-preserved
loop-n-preserved c =
    in_force_more c.args.h.now c.loop-n.n c.loop-n.all c.bytes_at.result c.in_ok-all.all (in_force c.args.h.now) (omega arith) c.loop-n.invariant c.bytes_at.ensures c.in_ok-all.ensures
