use Rattle.std.proofs.Common.{◌≡◌, drop}
use Rattle.ledger_model.specs.Pieces.{has_reference}
use Rattle.slow_ledger.proofs.filters.slow_has_reference.Given as goal

abbrev pub invariant-loop-n : goal.invariant-loop-n
invariant-loop-n l = has_reference (drop l.n l.h) l.reference ≡ has_reference l.h l.reference
