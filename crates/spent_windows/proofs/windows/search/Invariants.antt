use Rattle.std.proofs.Common.{◌-◌, ◌<◌, ◌≤◌, ℕ, length}
use Rattle.spent_windows.specs.Store.{number_at}
use Rattle.spent_windows.proofs.SearchLaws.{IsLeft}
use Rattle.spent_windows.proofs.windows.search.Given as goal

abbrev pub invariant-loop-low : goal.invariant-loop-low
invariant-loop-low g l = record {
  ordered : l.low ≤ l.high;
  within : l.high ≤ length l.windows;
  smaller : (j : ℕ) → j < l.low → number_at l.windows j < l.number;
  greater : (j : ℕ) → l.high ≤ j → j < length l.windows → l.number < number_at l.windows j;
  later : l.fn.steps ≤ l.steps;
  looked : l.high - l.low < length l.windows → l.fn.steps < l.steps;
  left : IsLeft (length l.windows) (l.high - l.low) (l.steps - l.fn.steps);
}

abbrev pub decreases-loop-low : goal.decreases-loop-low
decreases-loop-low g l = l.high - l.low
