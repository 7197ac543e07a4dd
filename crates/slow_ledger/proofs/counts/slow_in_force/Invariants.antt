use Rattle.std.proofs.Common.{◌≡◌, ◌+◌, drop}
use Rattle.ledger_model.specs.Goods.{in_force}
use Rattle.slow_ledger.proofs.counts.slow_in_force.Given as goal

abbrev pub invariant-loop-n : goal.invariant-loop-n
invariant-loop-n l = l.all + in_force (drop l.n l.h) ≡ in_force l.h
