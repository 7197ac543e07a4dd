use Rattle.std.proofs.Common.{List, ℕ, sym, ap, ◌∙◌}
use Rattle.ledger_model.specs.Houses.{upgrade_in}
use Rattle.ledger_model.specs.Stock.{upgrade_terms}
use Rattle.house_core.specs.Bench.{house_time}
use Rattle.house_core.specs.Upgrading.{upgrade_task}
use Rattle.broker_core.proofs.operator.upgrade_licence.Goals as goal

pub upgrade-requires-clause-terms : goal.upgrade-requires-clause-terms
upgrade-requires-clause-terms g c h st =
    c.terms_to_move-issuer.ensures.terms h st ∙ ap (upgrade_terms h c.args.vendor.now) (sym (c.terms_to_move-issuer.ensures.issuer h st))

pub upgrade-requires-clause-standing : goal.upgrade-requires-clause-standing
upgrade-requires-clause-standing g c h st =
    c.upgraded-standing.ensures h (c.trade.ensures h st) ∙ ap (λ (n : List ℕ). upgrade_in h n c.terms_to_move-issuer.result.0) c.bytes.ensures.value

pub returns-clause-exact : goal.returns-clause-exact
returns-clause-exact g c h st =
    let p = c.upgrade.ensures.exact h st in
    let issuer = c.terms_to_move-issuer.ensures.issuer h st in
    record { task = p.task; asks = p.asks ∙ ap (λ (i : ℕ). upgrade_task h (house_time c.args.house.bench) c.args.vendor.now i c.args.from) issuer; does = p.does; ran = p.ran }
