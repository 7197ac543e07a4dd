use Rattle.std.proofs.Common.{Option, sym, ap, ◌∙◌}
use Rattle.ledger_model.specs.Orders.{Order}
use Rattle.ledger_model.specs.Replies.{asker_secret}
use Rattle.house_state.proofs.Ordered.{none_asked}
use Rattle.house_core.proofs.Refused.{key_signs}
use Rattle.house_core.proofs.answering.asker_secret.Goals as goal

pub returns-in-Some : goal.returns-in-Some
returns-in-Some c h st asked = key_signs h c.args.q.now c.in-Some.ask (sym c.in-Some.is ∙ asked)

pub returns-in-None : goal.returns-in-None
returns-in-None c h st asked =
    let q = c.args.q.now in
    c.customer_of.ensures h st ∙ ap (λ (d : Option Order). asker_secret h d q.scrip) (sym (none_asked h q.target (sym c.in-None.is ∙ asked)))
