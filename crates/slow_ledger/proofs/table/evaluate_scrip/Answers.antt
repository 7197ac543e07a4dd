use Rattle.std.proofs.Common.{ap}
use Rattle.mc_requests.specs.Requests.{asked_of, seen}
use Rattle.slow_ledger.proofs.TableSteps.{evaluates_along, to_read}
use Rattle.slow_ledger.proofs.table.evaluate_scrip.Goals as goal

pub returns-in-Ok : goal.returns-in-Ok
returns-in-Ok c =
    evaluates_along c.evaluate_read.result _ _
    (to_read c.args.h.now c.args.time c.args.limits (asked_of c.args.q.now) c.in-Ok.s c.in-Some.text.now (ap seen c.in-Some.is) c.in-Ok.ensures.found.0 c.in-Ok.ensures.same)
    c.evaluate_read.ensures
