use Rattle.std.proofs.Common.{◌≡◌, ℕ, ◌+◌, ◌||◌, ◌++◌, sum_by, take, drop}
use Rattle.std.specs.List.{list_any}
use Rattle.audit_search.specs.Known.{has_id}
use Rattle.tree_search.specs.Handed.{value_of, is_id, fresh, stale}
use Rattle.tree_search.proofs.handed.keep.Given as goal

abbrev pub invariant-loop-part : goal.invariant-loop-part
invariant-loop-part l = record {
  kept : l.parts.items ++ fresh l.seen.keys (drop l.part-index l.more) ≡ l.fn.parts.items ++ fresh l.fn.seen.keys l.more;
  sum : l.again + sum_by value_of (stale l.seen.keys (drop l.part-index l.more)) ≡ sum_by value_of (stale l.fn.seen.keys l.more);
  all_seen : (id : ℕ) → has_id l.seen.keys id ≡ (has_id l.fn.seen.keys id || list_any (is_id id) (take l.part-index l.more));
}
