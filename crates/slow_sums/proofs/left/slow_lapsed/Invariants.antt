use Rattle.std.proofs.Common.{◌≡◌, ◌+◌, drop, sum_by}
use Rattle.audit_model.specs.Parts.{gone_by}
use Rattle.slow_sums.proofs.left.slow_lapsed.Given as goal

abbrev pub invariant-loop-part : goal.invariant-loop-part
invariant-loop-part l = l.all + sum_by (gone_by l.h) (drop l.part-index l.parts) ≡ sum_by (gone_by l.h) l.parts
