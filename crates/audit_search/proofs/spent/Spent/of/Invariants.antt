use Rattle.std.proofs.Common.{◌≡◌, ℕ, take}
use Rattle.audit_search.specs.Known.{has_id, was_accepted}
use Rattle.audit_search.proofs.spent.Spent.of.Given as goal

abbrev pub invariant-loop-row : goal.invariant-loop-row
invariant-loop-row l = (id : ℕ) → has_id l.ids.keys id ≡ was_accepted (take l.row-index l.accepted) id
