use Rattle.std.proofs.Common.{◌∙◌, ap, ℕ, position}
use Rattle.mc_requests.specs.Requests.{asked_of}
use Rattle.ledger_model.specs.Stages.{is_repeat}
use Rattle.ledger_model.specs.Answer.{without_scrip}
use Rattle.slow_ledger.proofs.draws.repeated.Goals as goal

pub returns : goal.returns
returns c =
    c.slow_repeat.ensures
    ∙ ap (λ (keep : ℕ). position (is_repeat keep c.args.time (without_scrip (asked_of c.args.q.now))) c.args.h.now) c.slow_keeping.ensures
