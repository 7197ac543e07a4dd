use Rattle.ledger_model.proofs.StockLaws.{licensed_counted}
use Rattle.ledger_model.proofs.LicenceLaws.{licensed_serials}
use Rattle.ledger_model.proofs.broker_laws.licensed_serials_have_no_gap.Goals as goal

pub returns-clause-serials : goal.returns-clause-serials
returns-clause-serials c = licensed_serials

pub returns-clause-counted : goal.returns-clause-counted
returns-clause-counted c = licensed_counted
