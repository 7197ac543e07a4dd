use Rattle.std.proofs.Common.{◌≡◌, drop}
use Rattle.audit_model.specs.Strangers.{strangers, first_of}
use Rattle.slow_sums.specs.Strangers.{vendors_of}
use Rattle.slow_sums.proofs.Strange.{first_in}
use Rattle.slow_sums.proofs.strangers.stranger_in.Given as goal

abbrev pub invariant-loop-n : goal.invariant-loop-n
invariant-loop-n l = first_in l.broker (vendors_of l.books) l.h (drop l.n l.h) ≡ first_of (strangers l.broker (vendors_of l.books) l.h)
