use Rattle.std.proofs.Common.{◌≡◌, ◌||◌, ◌&&◌, ◌+◌, eqb, leb, ltb, ℕ}
use Rattle.audit_search.specs.Known.{knows}
use Rattle.audit_search.proofs.known.put_run.Given as goal

abbrev pub invariant-loop-k : goal.invariant-loop-k
invariant-loop-k l = (id value : ℕ) → knows l.keys.keys id value ≡ (knows l.initial.keys.keys id value || (eqb value l.run.value && (leb l.run.first id && ltb id (l.run.first + l.k))))
