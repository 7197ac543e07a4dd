use Rattle.std.proofs.Common.{◌≡◌, ◌+◌, drop, sum_by}
use Rattle.audit_model.specs.Parts.{still_out}
use Rattle.slow_sums.proofs.left.slow_outstanding.Given as goal

abbrev pub invariant-loop-part : goal.invariant-loop-part
invariant-loop-part l = l.all + sum_by (still_out l.h) (drop l.part-index l.parts) ≡ sum_by (still_out l.h) l.parts
