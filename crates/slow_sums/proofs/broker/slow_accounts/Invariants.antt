use Rattle.std.proofs.Common.{◌≡◌, ◌+◌, drop, sum_by}
use Rattle.ledger_model.specs.Accounts.{all_balances}
use Rattle.slow_sums.specs.Sums.{balance_at}
use Rattle.slow_sums.proofs.broker.slow_accounts.Given as goal

abbrev pub invariant-loop-n : goal.invariant-loop-n
invariant-loop-n l = l.all + sum_by (balance_at l.h) (drop l.n l.h) ≡ all_balances l.h
