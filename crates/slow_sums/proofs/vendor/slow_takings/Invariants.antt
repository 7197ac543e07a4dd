use Rattle.std.proofs.Common.{◌≡◌, ◌+◌, drop, sum_by}
use Rattle.ledger_model.specs.Sums.{price_paid, takings}
use Rattle.slow_sums.proofs.vendor.slow_takings.Given as goal

abbrev pub invariant-loop-n : goal.invariant-loop-n
invariant-loop-n l = l.all + sum_by (price_paid) (drop l.n l.h) ≡ takings l.h
