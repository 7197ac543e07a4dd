use Rattle.std.proofs.Common.{◌≡◌, ℕ, take}
use Rattle.audit_search.specs.Known.{knows, has_part}
use Rattle.audit_search.proofs.known.Known.of_parts.Given as goal

abbrev pub invariant-loop-part : goal.invariant-loop-part
invariant-loop-part l = (id value : ℕ) → knows l.keys.keys id value ≡ has_part (take l.part-index l.parts) id value
