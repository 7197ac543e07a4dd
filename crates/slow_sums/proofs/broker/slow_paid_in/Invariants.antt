use Rattle.std.proofs.Common.{◌≡◌, ◌+◌, drop, sum_by}
use Rattle.ledger_model.specs.Sums.{amount_in, paid_in}
use Rattle.slow_sums.proofs.broker.slow_paid_in.Given as goal

abbrev pub invariant-loop-n : goal.invariant-loop-n
invariant-loop-n l = l.all + sum_by (amount_in) (drop l.n l.h) ≡ paid_in l.h
