use Rattle.ledger_model.proofs.AccountLaws as accounts
use Rattle.ledger_model.proofs.broker_laws.orders_rise.Goals as goal

pub returns-clause-rise : goal.returns-clause-rise
returns-clause-rise c = accounts.orders_rise

pub returns-clause-once : goal.returns-clause-once
returns-clause-once c = accounts.accounts_once
