use Rattle.std.proofs.Common.{ℕ, List, sym, ap, ◌∙◌}
use Rattle.ledger_model.specs.Houses.{upgrade_in}
use Rattle.ledger_model.specs.Stock.{upgrade_terms}
use Rattle.house_core.specs.Bench.{house_time}
use Rattle.house_core.specs.Upgrading.{upgrade_task}
use Rattle.vendor_core.proofs.OperatorLemmas.{own_terms_by}
use Rattle.vendor_core.proofs.operator.upgrade.Goals as goal

pub upgrade-requires-clause-terms : goal.upgrade-requires-clause-terms
upgrade-requires-clause-terms g c h st =
    c.terms-terms.ensures h st ∙ sym (own_terms_by h c.args.issuer st.house.represents.of_kind) ∙ ap (λ (n : List ℕ). upgrade_terms h n c.args.issuer) (sym (c.name-name.ensures h st))

pub upgrade-requires-clause-standing : goal.upgrade-requires-clause-standing
upgrade-requires-clause-standing g c h st = c.upgraded-standing.ensures h st ∙ ap (λ (n : List ℕ). upgrade_in h n c.args.issuer) (sym (c.name-name.ensures h st))

pub returns-clause-exact : goal.returns-clause-exact
returns-clause-exact g c h st =
    let p = c.upgrade.ensures.exact h st in
    record { task = p.task; asks = p.asks ∙ ap (λ (n : List ℕ). upgrade_task h (house_time c.args.house.bench) n c.args.issuer c.args.from) (c.name-name.ensures h st); does = p.does; ran = p.ran }
