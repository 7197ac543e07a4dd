use Rattle.ledger_model.proofs.AccountLaws.{none_overdrawn, balance_is, balance_fits}
use Rattle.ledger_model.proofs.broker_laws.no_account_is_overdrawn.Goals as goal

pub returns-clause-covered : goal.returns-clause-covered
returns-clause-covered c = none_overdrawn

pub returns-clause-balance : goal.returns-clause-balance
returns-clause-balance c = balance_is

pub returns-clause-within : goal.returns-clause-within
returns-clause-within c = balance_fits
