use Rattle.std.proofs.Common.{◌∙◌, List, ap}
use Rattle.ledger_model.specs.declared.upgraded.Upgraded.{Upgraded}
use Rattle.ledger_model.specs.Houses.{upgrade_by}
use Rattle.broker_core.proofs.desk.Desk.upgraded.Goals as goal

pub returns : goal.returns
returns c h stands = c.upgraded.ensures ∙ ap (λ (us : List Upgraded). upgrade_by us c.args.issuer) (stands.of_moves c.args.vendor.now)
