use Rattle.std.proofs.Common.{arith}
use Rattle.slow_ledger.proofs.CountLaws.{switched_more}
use Rattle.slow_ledger.proofs.chains.slow_has_switch.Goals as goal

pub loop-n-preserved : goal.loop-n-preserved
loop-n-preserved c = switched_more c.args.h.now c.loop-n.n c.switched_by-switched.result c.loop-n.switched (omega arith) c.loop-n.invariant c.switched_by-switched.ensures
