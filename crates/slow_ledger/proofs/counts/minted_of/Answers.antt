use Rattle.std.proofs.Common.{arith, ◌+◌, ◌/◌, ◌^◌, ◌≡◌, true, false, eq-eqb}
use Rattle.std.proofs.lemmas.Bool.Decides.{nat_tests}
use Rattle.slow_ledger.proofs.CountLaws.{minted_more}
use Rattle.slow_ledger.proofs.counts.minted_of.Goals as goal
use Rattle.slow_ledger.proofs.counts.minted_of.Goals.{then-high-low, else-high-low}

pub loop-k-preserved : goal.loop-k-preserved
loop-k-preserved c = elim c.if-high-low.branch [
  | then-high-low w ↦
      let is : (c.args.first + c.loop-k.k) / 2 ^ 32 ≡ c.args.series = omega arith in
      record { few = omega arith; so_far = λ before value. minted_more before value c.args.series c.args.first c.args.count c.loop-k.k c.loop-k.found c.if-high-low.found true (omega arith) (c.loop-k.invariant.so_far before value) (eq-eqb _ _ is) w.found-is }
  | else-high-low w ↦
      let is_not : (c.args.first + c.loop-k.k) / 2 ^ 32 ≡ c.args.series → ⊥ = λ e. omega arith in
      record { few = omega arith; so_far = λ before value. minted_more before value c.args.series c.args.first c.args.count c.loop-k.k c.loop-k.found c.if-high-low.found false (omega arith) (c.loop-k.invariant.so_far before value) (grind (arith, nat_tests)) (omega arith) }
]
