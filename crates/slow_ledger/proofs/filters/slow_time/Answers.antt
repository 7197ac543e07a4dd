use Rattle.std.proofs.Common.{arith, ◌≡◌, max}
use Rattle.slow_ledger.proofs.SlowLaws.{time_more}
use Rattle.slow_ledger.proofs.filters.slow_time.Goals as goal

pub loop-n-preserved : goal.loop-n-preserved
loop-n-preserved c =
    let is : c.max-greatest.result ≡ max c.moment_at.result c.loop-n.greatest = cc in
    time_more c.args.h.now c.loop-n.n c.loop-n.greatest c.moment_at.result c.max-greatest.result (omega arith) c.loop-n.invariant c.moment_at.ensures is
