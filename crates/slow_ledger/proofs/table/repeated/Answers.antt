use Rattle.std.proofs.Common.{ap, ◌∙◌, ℕ, List, Some, position}
use Rattle.mc_requests.specs.Requests.{Asked, seen}
use Rattle.ledger_model.specs.Houses.{keeping}
use Rattle.ledger_model.specs.Stages.{is_repeat}
use Rattle.slow_ledger.proofs.table.repeated.Goals as goal

pub returns : goal.returns
returns c =
    let asked : List ℕ → Asked = λ text. record { target = c.args.q.now.target.now; scrip = Some text; sign = seen c.args.q.now.sign } in
    c.slow_repeat.ensures
    ∙ ap (λ (keep : ℕ). position (is_repeat keep c.args.time (asked c.text.result.now)) c.args.h.now) c.slow_keeping.ensures
    ∙ ap (λ (text : List ℕ). position (is_repeat (keeping c.args.h.now) c.args.time (asked text)) c.args.h.now) c.text.ensures.text
