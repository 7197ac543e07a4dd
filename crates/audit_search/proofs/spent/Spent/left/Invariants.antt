use Rattle.std.proofs.Common.{◌≡◌, take, sum_by}
use Rattle.audit_search.specs.Known.{has_id, out_at, gone_at}
use Rattle.audit_search.proofs.spent.Spent.left.Given as goal

abbrev pub invariant-loop-part : goal.invariant-loop-part
invariant-loop-part l = record {
  still : l.left.outstanding ≡ sum_by (out_at (has_id l.self) l.time) (take l.part-index l.parts);
  gone : l.left.lapsed ≡ sum_by (gone_at (has_id l.self) l.time) (take l.part-index l.parts);
}
