use Rattle.std.proofs.Common.{Some, None}
use Rattle.mc_requests.specs.Requests.{asked_of}
use Rattle.slow_ledger.proofs.TableSteps.{evaluates_along, to_repeat}
use Rattle.slow_ledger.proofs.table.evaluate_read.Goals as goal

pub returns-in-Some : goal.returns-in-Some
returns-in-Some c = to_repeat c.args.h.now c.args.time c.args.limits (asked_of c.args.q.now) c.args.s.now (Some c.in-Some.number) c.in-Some.ensures

pub returns-in-None : goal.returns-in-None
returns-in-None c =
    evaluates_along c.evaluate_new.result _ _
    (to_repeat c.args.h.now c.args.time c.args.limits (asked_of c.args.q.now) c.args.s.now None c.in-None.ensures)
    c.evaluate_new.ensures
