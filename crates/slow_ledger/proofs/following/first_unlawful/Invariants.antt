use Rattle.std.proofs.Common.{take, []}
use Rattle.ledger_model.specs.Lawful.{AllFollow}
use Rattle.slow_ledger.proofs.following.first_unlawful.Given as goal

abbrev pub invariant-loop-n : goal.invariant-loop-n
invariant-loop-n l = AllFollow l.limits [] (take l.n l.h)
