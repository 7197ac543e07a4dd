use Rattle.std.proofs.Common.{◌≡◌, ◌+◌, drop, sum_by}
use Rattle.ledger_model.specs.Accounts.{amount_to}
use Rattle.slow_ledger.proofs.accounts.slow_put.Given as goal

abbrev pub invariant-loop-n : goal.invariant-loop-n
invariant-loop-n l = l.all + sum_by (amount_to l.name) (drop l.n l.h) ≡ sum_by (amount_to l.name) l.h
