use Rattle.std.proofs.Common.{ap, ◌∙◌}
use Rattle.audit_search.specs.Known.{has_id}
use Rattle.audit_search.proofs.Loops.{spent_some, spent_none}
use Rattle.audit_search.proofs.spent.Spent.of.Goals as goal
use Rattle.audit_search.proofs.spent.Spent.of.Goals.{in-Some+in_ok-insert-in-Some, in-None}

pub loop-row-preserved : goal.loop-row-preserved
loop-row-preserved c = λ id.
    let rows = c.args.accepted.now in
    let i = c.loop-row.row-index in
    let row = c.row-item.result in
    elim c.match-row.branch [
      | in-Some+in_ok-insert-in-Some w ↦
          spent_some rows i row w.in-Some.piece w.number.result id _ _ c.loop-row-test.true c.row-item.is w.in-Some.is w.number.ensures (c.loop-row.invariant id)
          (ap (λ s. has_id s.keys id) w.ids-is ∙ w.in_ok-insert-in-Some.ensures.updates.0 id)
      | in-None w ↦
          ap (λ s. has_id s.keys id) w.ids-is ∙ spent_none rows i row id _ c.loop-row-test.true c.row-item.is w.in-None.is (c.loop-row.invariant id)
    ]
