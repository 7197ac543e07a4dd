use Rattle.std.proofs.Common.{sym, ap, ◌∙◌}
use Rattle.ledger_model.specs.Accounts.{account_names}
use Rattle.broker_accounts.specs.Accounts.{balances}
use Rattle.broker_ledger.proofs.StandingLaws.{balances_are}
use Rattle.broker_ledger.proofs.broker_ledger.AccountLedger.balances.Goals as goal

pub returns : goal.returns
returns c h stands = c.sum.ensures ∙ ap balances (sym stands.of_accounts.all_accounts) ∙ balances_are h (account_names h)
