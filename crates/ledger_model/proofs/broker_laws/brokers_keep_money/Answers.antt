use Rattle.ledger_model.proofs.MoneyLaws.{accounts_hold, prices_split, broker_keeps}
use Rattle.ledger_model.proofs.broker_laws.brokers_keep_money.Goals as goal

pub returns-clause-accounts : goal.returns-clause-accounts
returns-clause-accounts c = accounts_hold

pub returns-clause-prices : goal.returns-clause-prices
returns-clause-prices c = prices_split

pub returns-clause-kept : goal.returns-clause-kept
returns-clause-kept c = broker_keeps
