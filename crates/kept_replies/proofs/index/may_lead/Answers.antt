use Rattle.std.proofs.Common.{get_or, ap, ◌∙◌, arith, below_more}
use Rattle.std.proofs.lemmas.List.{get_or_default}
use Rattle.std.proofs.lemmas.List.Folds.{Any-from_list_any}
use Rattle.kept_replies.specs.Index.{slot_leads}
use Rattle.kept_replies.proofs.IndexLaws.{short_is}
use Rattle.kept_replies.proofs.index.may_lead.Goals as goal
use Rattle.kept_replies.proofs.index.may_lead.Goals.{then-slot-short, else-slot-short}

pub loop-slot-preserved : goal.loop-slot-preserved
loop-slot-preserved c =
    let slots = c.args.slots.now in
    elim c.if-slot-short.branch [
      | then-slot-short w ↦ λ p k lt lead. w.may-is
      | else-slot-short w ↦
          rw w.may-is (λ p. below_more _ _ (c.loop-slot.invariant p) (λ lead. absurd (w.if-slot-short.false (short_is c.args.tag p (get_or slots c.loop-slot.slot-index 0) lead))))
    ]

pub returns : goal.returns
returns c = λ p any.
    let one = Any-from_list_any (slot_leads c.args.tag p) c.args.slots.now any in
    let lt = one.2 in
    c.loop-slot.invariant p one.0 (omega (arith, lt, c.loop-slot-test.false)) (ap (slot_leads c.args.tag p) (get_or_default c.args.slots.now one.0 0 one.1 lt ∙ one.3) ∙ one.4)
