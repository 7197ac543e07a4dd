use Rattle.std.proofs.Common.{ap, ap₂, ◌∙◌}
use Rattle.mc_requests.specs.declared.limits.Limits.{Limits}
use Rattle.mc_requests.specs.Requests.{Asked}
use Rattle.ledger_model.specs.Answer.{answer}
use Rattle.ledger_model.proofs.WithinLaws.{within_keeping}
use Rattle.house_state.specs.Verdicts.{judged}
use Rattle.house_core.proofs.bench.Bench.judge.Goals as goal

pub returns-in-Ok-clause-exact : goal.returns-in-Ok-clause-exact
returns-in-Ok-clause-exact g c = rw (← c.self.view_is) (λ h st.
    ap judged (c.in-Ok.ensures.exact h st.represents.state st.represents.learned st.represents.of_kind ∙ within_keeping _ h _ _ _ st.contents.keep ∙ ap₂ (λ (l : Limits) (q : Asked). answer h (c.self.inside.state.time) l q) c.limits.ensures.limits c.of-q.ensures))

pub returns-in-Err-Refused-clause-exact : goal.returns-in-Err-Refused-clause-exact
returns-in-Err-Refused-clause-exact g c = rw (← c.self.view_is) (λ h st.
    ap judged ((rw c.in-Err-Refused.field-0-is at (c.in-Err-Refused.ensures.exact h st.represents.state st.represents.learned st.represents.of_kind))
    ∙ within_keeping _ h _ _ _ st.contents.keep ∙ ap₂ (λ (l : Limits) (q : Asked). answer h (c.self.inside.state.time) l q) c.limits.ensures.limits c.of-q.ensures))

pub returns-in-Err-Again-clause-exact : goal.returns-in-Err-Again-clause-exact
returns-in-Err-Again-clause-exact g c = rw (← c.self.view_is) (λ h st.
    rw c.number.ensures (ap judged ((rw c.in-Err-Again.field-0-is at (c.in-Err-Again.ensures.exact h st.represents.state st.represents.learned st.represents.of_kind))
    ∙ within_keeping _ h _ _ _ st.contents.keep ∙ ap₂ (λ (l : Limits) (q : Asked). answer h (c.self.inside.state.time) l q) c.limits.ensures.limits c.of-q.ensures)))
