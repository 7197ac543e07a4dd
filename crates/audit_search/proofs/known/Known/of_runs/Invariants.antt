use Rattle.std.proofs.Common.{◌≡◌, ℕ, take}
use Rattle.std.specs.List.{list_any}
use Rattle.audit_search.specs.Known.{knows, is_in_run}
use Rattle.audit_search.proofs.known.Known.of_runs.Given as goal

abbrev pub invariant-loop-run : goal.invariant-loop-run
invariant-loop-run l = (id value : ℕ) → knows l.keys.keys id value ≡ list_any (is_in_run id value) (take l.run-index l.runs)
