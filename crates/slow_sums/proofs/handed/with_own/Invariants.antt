use Rattle.std.proofs.Common.{◌≡◌, ◌++◌, map}
use Rattle.ledger_model.specs.Pieces.{own_out}
use Rattle.audit_model.specs.Parts.{part_of}
use Rattle.slow_sums.proofs.HandedLaws.{own_parts}
use Rattle.slow_sums.proofs.handed.with_own.Given as goal

abbrev pub invariant-loop-n : goal.invariant-loop-n
invariant-loop-n l = own_parts l.parts.items l.h l.n ≡ l.fn.parts.items ++ map part_of (own_out l.h)
