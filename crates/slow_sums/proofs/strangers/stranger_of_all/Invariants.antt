use Rattle.std.proofs.Common.{◌≡◌, drop}
use Rattle.audit_model.specs.Strangers.{first_from, first_stranger}
use Rattle.slow_sums.specs.Strangers.{vendors_of}
use Rattle.slow_sums.proofs.strangers.stranger_of_all.Given as goal

abbrev pub invariant-loop-book : goal.invariant-loop-book
invariant-loop-book l = first_from l.book l.broker (vendors_of l.books) (drop l.book l.books) ≡ first_stranger l.broker (vendors_of l.books) l.books
