use Rattle.std.proofs.Common.{List, sym, ap, ◌∙◌}
use Rattle.ledger_model.specs.declared.upgraded.Upgraded.{Upgraded}
use Rattle.ledger_model.specs.Houses.{upgrade_by}
use Rattle.house_core.proofs.house.House.upgraded.Goals as goal

pub returns : goal.returns
returns g c = rw (← c.self.view_is, ← c.self-inside.view_is) (λ h st.
    c.upgrade_of.ensures ∙ ap (λ (us : List Upgraded). upgrade_by us c.args.issuer) (sym st.house.represents.state.upgrades))
