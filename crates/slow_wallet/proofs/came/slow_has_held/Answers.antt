use Rattle.std.proofs.Common.{◌∙◌, sym, ap, Bool, ◌&&◌}
use Rattle.wallet_model.specs.Holdings.{is_held, state_in}
use Rattle.slow_wallet.proofs.Steps.{held_test}
use Rattle.slow_wallet.proofs.came.slow_has_held.Goals as goal

pub returns-then-slow_came : goal.returns-then-slow_came
returns-then-slow_came c =
    let h = c.args.h.now in
    let text = c.args.text.now in
    c.is_held.ensures ∙ ap is_held c.slow_state.ensures ∙ sym (held_test h text ∙ ap (λ (b : Bool). b && is_held (state_in h text)) (sym c.if-slow_came.ensures))

pub returns-else-slow_came : goal.returns-else-slow_came
returns-else-slow_came c =
    let h = c.args.h.now in
    let text = c.args.text.now in
    c.if-slow_came.false ∙ sym (held_test h text ∙ ap (λ (b : Bool). b && is_held (state_in h text)) (sym c.if-slow_came.ensures))
