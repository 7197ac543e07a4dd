use Rattle.std.proofs.Common.{sym}
use Rattle.broker_ledger.proofs.broker_ledger.AccountLedger.accounts.Goals as goal

pub returns : goal.returns
returns c h stands = rw c.all.ensures (sym stands.of_accounts.all_accounts)
