use Rattle.std.proofs.Common.{◌≡◌, ◌++◌, drop}
use Rattle.broker_commands.specs.Operations.{listed_accounts}
use Rattle.broker_commands.proofs.list.append_accounts.Given as goal

abbrev pub invariant-loop-account : goal.invariant-loop-account
invariant-loop-account l = l.lines.items ++ listed_accounts (drop l.account-index l.accounts) ≡ l.fn.lines.items ++ listed_accounts l.accounts
