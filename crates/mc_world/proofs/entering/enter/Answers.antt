use Rattle.std.proofs.Common.{◌≡◌, false, sym, ap, ◌∙◌}
use Rattle.ledger_model.specs.Houses.{is_broker}
use Rattle.house_core.specs.Session.{State}
use Rattle.mc_world.proofs.Entered.{vendor_kind}
use Rattle.mc_world.proofs.entering.enter.Goals as goal

pub enter_by-requires-else-slow_is_broker-clause-kind : goal.enter_by-requires-else-slow_is_broker-clause-kind
enter_by-requires-else-slow_is_broker-clause-kind c =
    let other : is_broker c.args.house.history ≡ false =
    sym (c.slow_is_broker.ensures ∙ ap is_broker (c.whole.ensures ∙ ap (λ (s : State). s.history) c.house.view_is)) ∙ c.if-slow_is_broker.false in
    vendor_kind c.args.limits c.args.house.history c.requires.house.book.lawful other
