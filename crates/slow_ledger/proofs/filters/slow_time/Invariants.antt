use Rattle.std.proofs.Common.{◌≡◌, drop, max}
use Rattle.ledger_model.specs.Histories.{time}
use Rattle.slow_ledger.proofs.filters.slow_time.Given as goal

abbrev pub invariant-loop-n : goal.invariant-loop-n
invariant-loop-n l = max l.greatest (time (drop l.n l.h)) ≡ time l.h
