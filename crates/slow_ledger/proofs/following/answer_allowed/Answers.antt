use Rattle.std.proofs.Common.{ap, ◌≡◌, ◌∙◌, ℕ, List, bytes_eq}
use Rattle.mc_requests.specs.Requests.{seen}
use Rattle.ledger_model.specs.Lawful.{unbounded}
use Rattle.slow_ledger.specs.Slow.{asked_by}
use Rattle.ledger_model.specs.Lines.{Refuse, Repeat}
use Rattle.slow_ledger.proofs.LawfulSteps.{allowed_taken, allowed_stopped}
use Rattle.slow_ledger.proofs.following.answer_allowed.Goals as goal

pub returns-in-Ok : goal.returns-in-Ok
returns-in-Ok c =
    let same : c.eq.result ≡ bytes_eq c.in-Ok.found.items c.args.spelled.now = c.eq.ensures ∙ ap (λ (x : List ℕ). bytes_eq x c.args.spelled.now) c.as_slice.ensures.value in
    allowed_taken c.no_payload_begins_another.ensures c.args.h.now c.args.moment (unbounded c.args.limits) (asked_by (seen c.args.scrip) c.args.target.now c.args.sign.now) c.in-Ok.found c.args.spelled.now c.eq.result
    c.in-Ok.ensures same

pub returns-in-Err-Refused : goal.returns-in-Err-Refused
returns-in-Err-Refused c =
    λ e _ _. allowed_stopped c.args.h.now c.args.moment (unbounded c.args.limits) (asked_by (seen c.args.scrip) c.args.target.now c.args.sign.now) (Refuse c.in-Err-Refused.field-0-0) (rw c.in-Err-Refused.field-0-is at c.in-Err-Refused.ensures) e

pub returns-in-Err-Again : goal.returns-in-Err-Again
returns-in-Err-Again c =
    λ e _ _. allowed_stopped c.args.h.now c.args.moment (unbounded c.args.limits) (asked_by (seen c.args.scrip) c.args.target.now c.args.sign.now) (Repeat c.in-Err-Again.field-0-0) (rw c.in-Err-Again.field-0-is at c.in-Err-Again.ensures) e
