use Rattle.std.proofs.Common.{List, ℕ, sym, ap₂, ◌∙◌, arith}
use Rattle.ledger_model.specs.declared.upgraded.Upgraded.{Upgraded}
use Rattle.ledger_model.specs.Houses.{version_by}
use Rattle.house_core.proofs.house.House.version.Goals as goal

pub returns-clause-series : goal.returns-clause-series
returns-clause-series g c = rw (← c.self.view_is, ← c.self-inside.view_is) (λ h st below.
    c.version.ensures.value ∙ ap₂ (λ (us : List Upgraded) (s : ℕ). version_by us s) (sym st.house.represents.state.upgrades) (omega (arith, below, c.from.ensures)))
