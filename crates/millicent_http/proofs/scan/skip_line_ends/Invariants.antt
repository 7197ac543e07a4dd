use Rattle.std.proofs.Common.{◌≡◌, ◌≤◌, ◌+◌, ◌-◌, length, drop}
use Rattle.millicent_http.specs.HeadEnds.{line_ends}
use Rattle.millicent_http.proofs.scan.skip_line_ends.Given as goal

abbrev pub invariant-ends : goal.invariant-ends
invariant-ends l = record {
  within : l.skip ≤ length l.bytes;
  skipped : line_ends l.bytes ≡ l.skip + line_ends (drop l.skip l.bytes);
}

abbrev pub decreases-ends : goal.decreases-ends
decreases-ends l = length l.bytes - l.skip
