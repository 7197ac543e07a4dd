use Rattle.std.proofs.Common.{sym}
use Rattle.mc_requests.specs.Requests.{asked_of}
use Rattle.slow_ledger.specs.Slow.{an_order}
use Rattle.slow_ledger.proofs.TableSteps.{evaluates_along, to_drawn}
use Rattle.slow_ledger.proofs.draws.evaluate_new.Goals as goal

pub returns-in-Ok-payable : goal.returns-in-Ok-payable
returns-in-Ok-payable c =
    evaluates_along c.drawn.result _ _
    (to_drawn c.args.h.now c.args.time c.args.limits (asked_of c.args.q.now) (an_order c.args.account.now c.args.order c.args.amount) c.in-Some.key c.in-Ok.sign
    (sym c.in-Some.ensures) (sym c.in-Ok.ensures) c.in-Ok-payable.ensures)
    c.drawn.ensures
