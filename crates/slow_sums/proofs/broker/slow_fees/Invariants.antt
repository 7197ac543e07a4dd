use Rattle.std.proofs.Common.{◌≡◌, ◌+◌, drop, sum_by}
use Rattle.ledger_model.specs.Sums.{fee_of, fees}
use Rattle.slow_sums.proofs.broker.slow_fees.Given as goal

abbrev pub invariant-loop-n : goal.invariant-loop-n
invariant-loop-n l = l.all + sum_by (fee_of l.fee) (drop l.n l.h) ≡ fees l.h
