use Rattle.std.proofs.Common.{arith}
use Rattle.slow_sums.proofs.MintedLaws.{run_has, run_lacks}
use Rattle.slow_sums.proofs.minted.is_of_run.Goals as goal
use Rattle.slow_sums.proofs.minted.is_of_run.Goals.{then-part-value-via-then-part-value, then-part-value-via-else-part-value+then-id-first}

pub returns-then-part-value : goal.returns-then-part-value
returns-then-part-value c = elim c.then-part-value.branch [
  | then-part-value-via-then-part-value w ↦ λ before. run_lacks c.args.part.now before c.args.value c.args.first c.args.count (λ same. absurd (omega (arith, w.if-part-value)))
  | then-part-value-via-else-part-value+then-id-first w ↦ λ before. run_lacks c.args.part.now before c.args.value c.args.first c.args.count (λ same. omega (arith, w.if-id-first))
]

pub returns : goal.returns
returns c = λ before. rw c.number-id.ensures (rw c.number-first.ensures (rw c.from.ensures (run_has c.args.part.now before c.args.value c.args.first c.args.count (omega (arith, c.if-part-value.false)) (omega (arith, c.if-id-first.false)))))
