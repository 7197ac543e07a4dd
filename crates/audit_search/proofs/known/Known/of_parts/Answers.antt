use Rattle.audit_search.proofs.Loops.{known_more}
use Rattle.audit_search.proofs.known.Known.of_parts.Goals as goal

pub loop-part-preserved : goal.loop-part-preserved
loop-part-preserved c = λ id value.
    known_more c.args.parts.now c.loop-part.part-index c.part-item.result c.number.result id value _ _ c.loop-part-test.true c.part-item.is c.number.ensures (c.loop-part.invariant id value)
    (c.in_ok-insert.ensures.updates.0 (id, value))
