use Rattle.std.proofs.Common.{◌≡◌, ℕ, ◌+◌, true, false, cond, eqb, ◌++◌, sum_by, drop, ap, sym, ◌∙◌}
use Rattle.audit_search.specs.Known.{has_id}
use Rattle.tree_search.specs.Handed.{value_of, fresh, stale}
use Rattle.tree_search.proofs.HandedLaws.{was_new, was_seen, fresh_next, fresh_same, stale_next, stale_same, seen_next}
use Rattle.tree_search.proofs.handed.keep.Goals as goal
use Rattle.tree_search.proofs.handed.keep.Goals.{then-branch+in_ok-push, else-branch+in_ok-again}

pub loop-part-preserved : goal.loop-part-preserved
loop-part-preserved c =
    let more = c.args.more.now in
    let i = c.loop-part.part-index in
    let p = c.part-item.result in
    let n = c.number.result in
    let old = c.loop-part.seen.keys in
    let new = c.insert.new.self.keys in
    let lt = c.loop-part-test.true in
    let is = c.part-item.is in
    let num = c.number.ensures in
    let put : (id : ℕ) → has_id new id ≡ cond (eqb n id) true (has_id old id) = λ id. c.in_ok-insert.ensures.updates.0 id in
    elim c.if-branch.branch [
      | then-branch+in_ok-push w ↦
          let fresh_one : has_id old p.id ≡ false = ap (has_id old) (sym num) ∙ was_new (has_id old n) c.in_ok-insert.field-0 c.in_ok-insert.ensures.added w.if-branch.true in
          record {
            kept = fresh_next more i p n old new lt is num put fresh_one c.loop-part.parts.items _ c.if-branch.parts.items c.loop-part.invariant.kept (ap (λ v. v.items) w.parts-is ∙ w.in_ok-push.ensures.items);
            sum = stale_next more i p n old new lt is num put fresh_one c.if-branch.again _ (ap (λ (k : ℕ). k + sum_by value_of (stale old (drop i more))) w.again-is ∙ c.loop-part.invariant.sum);
            all_seen = seen_next more i p n old new lt is num put c.args.seen.now.keys c.loop-part.invariant.all_seen;
          }
      | else-branch+in_ok-again w ↦
          let seen_one : has_id old p.id ≡ true = ap (has_id old) (sym num) ∙ was_seen (has_id old n) c.in_ok-insert.field-0 c.in_ok-insert.ensures.added w.if-branch.false in
          record {
            kept = fresh_same more i p n old new lt is num put seen_one c.if-branch.parts.items _ (ap (λ v. v.items ++ fresh old (drop i more)) w.parts-is ∙ c.loop-part.invariant.kept);
            sum = stale_same more i p n old new lt is num put seen_one c.loop-part.again _ c.if-branch.again c.loop-part.invariant.sum (w.again-is ∙ w.in_ok-again.ensures);
            all_seen = seen_next more i p n old new lt is num put c.args.seen.now.keys c.loop-part.invariant.all_seen;
          }
    ]
