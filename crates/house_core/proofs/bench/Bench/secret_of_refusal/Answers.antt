use Rattle.std.proofs.Common.{◌≡◌, Bool, true, None, cond, sym, ap, ◌∙◌}
use Rattle.mc_requests.specs.Refusals.{is_signed}
use Rattle.ledger_model.specs.Answer.{draw_in}
use Rattle.ledger_model.specs.Replies.{asker_secret}
use Rattle.house_core.proofs.bench.Bench.secret_of_refusal.Goals as goal

pub returns-then-is_signed : goal.returns-then-is_signed
returns-then-is_signed g c = rw (← c.self.view_is) (λ h st asked.
    let q = c.args.q.now in
    let signed : is_signed c.args.refusal.now ≡ true = sym c.is_signed.ensures ∙ c.if-is_signed.true in
    c.asker_secret.ensures h st.state asked ∙ ap (λ (b : Bool). cond b (asker_secret h (draw_in h q.target) q.scrip) None) (sym signed))
