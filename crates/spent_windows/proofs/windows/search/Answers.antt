use Rattle.std.proofs.Common.{◌≡◌, ℕ, ◌+◌, ◌-◌, ◌/◌, sym, ◌∙◌, arith}
use Rattle.spent_windows.specs.Store.{number_at}
use Rattle.spent_windows.proofs.SearchLaws.{halved, number_read, all_smaller, all_greater}
use Rattle.spent_windows.proofs.windows.search.Goals as goal

pub loop-low-preserved-then-there-number-2 : goal.loop-low-preserved-then-there-number-2
loop-low-preserved-then-there-number-2 g c =
    let i = c.loop-low.invariant in
    let middle : ℕ = c.loop-low.low + (c.loop-low.high - c.loop-low.low) / 2 in
    let read : number_at c.args.windows.now middle ≡ c.look-there.result =
    number_read c.args.windows.now middle c.index-windows-middle.result c.index-windows-middle.is (omega arith) ∙ sym c.look-there.ensures.number in
    record {
      ordered = omega arith;
      within = i.within;
      smaller = all_smaller c.args.windows.now middle c.args.number c.requires (omega arith) (omega arith);
      greater = i.greater;
      later = omega arith;
      looked = λ less. omega arith;
      left = halved _ (c.loop-low.high - c.loop-low.low) (c.loop-low.steps - c.args.steps.now) _ _ i.left (omega arith) (omega arith) (omega arith);
    }

pub loop-low-preserved : goal.loop-low-preserved
loop-low-preserved g c =
    let i = c.loop-low.invariant in
    let middle : ℕ = c.loop-low.low + (c.loop-low.high - c.loop-low.low) / 2 in
    let read : number_at c.args.windows.now middle ≡ c.look-there.result =
    number_read c.args.windows.now middle c.index-windows-middle.result c.index-windows-middle.is (omega arith) ∙ sym c.look-there.ensures.number in
    record {
      ordered = omega arith;
      within = omega arith;
      smaller = i.smaller;
      greater = all_greater c.args.windows.now middle c.args.number c.requires (omega arith);
      later = omega arith;
      looked = λ less. omega arith;
      left = halved _ (c.loop-low.high - c.loop-low.low) (c.loop-low.steps - c.args.steps.now) _ _ i.left (omega arith) (omega arith) (omega arith);
    }
