use Rattle.std.proofs.Common.{arith, Some, None}
use Rattle.slow_ledger.proofs.SlowLaws.{terms_more}
use Rattle.slow_ledger.proofs.filters.slow_terms.Goals as goal

pub returns-in-Some : goal.returns-in-Some
returns-in-Some c = terms_more c.args.h.now c.loop-n.n c.args.issuer (Some c.in-Some.terms) (omega arith) c.loop-n.invariant c.in-Some.ensures

pub loop-n-preserved : goal.loop-n-preserved
loop-n-preserved c = terms_more c.args.h.now c.loop-n.n c.args.issuer None (omega arith) c.loop-n.invariant c.in-None.ensures
