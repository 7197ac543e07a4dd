use Rattle.std.proofs.Common.{◌≡◌, ◌+◌, drop, sum_by}
use Rattle.ledger_model.specs.Accounts.{amount_from}
use Rattle.slow_ledger.proofs.accounts.slow_taken.Given as goal

abbrev pub invariant-loop-n : goal.invariant-loop-n
invariant-loop-n l = l.all + sum_by (amount_from l.name) (drop l.n l.h) ≡ sum_by (amount_from l.name) l.h
