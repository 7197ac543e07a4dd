use Rattle.std.proofs.Common.{◌≡◌, ℕ, ◌+◌, ◌-◌, ◌≤◌, count_by}
use Rattle.ledger_model.specs.Histories.{History}
use Rattle.ledger_model.specs.Pieces.{run_from}
use Rattle.slow_ledger.specs.Slow.{is_of}
use Rattle.slow_ledger.proofs.counts.minted_of.Given as goal

abbrev pub invariant-loop-k : goal.invariant-loop-k
invariant-loop-k l = record {
  few : l.found ≤ l.k;
  so_far : (before : History) (value : ℕ) → l.found + count_by (is_of l.series) (run_from before value (l.fn.first + l.k) (l.count - l.k)) ≡ count_by (is_of l.series) (run_from before value l.fn.first l.count);
}
