use Rattle.std.proofs.Common.{◌≡◌, ℕ, ◌<◌, Bool, true, length, get_or, ap, ◌∙◌, arith, below_more}
use Rattle.std.proofs.lemmas.Bool.{or_left, or_right, both_ways}
use Rattle.std.proofs.lemmas.List.{get_or_default}
use Rattle.std.proofs.lemmas.List.Folds.{Any-from_list_any}
use Rattle.std.proofs.lemmas.List.Sums.{sum_by-drop_more}
use Rattle.kept_replies.specs.Index.{slot_leads, leads_in, counted}
use Rattle.kept_replies.proofs.IndexLaws.{empty_leads, counted_other}
use Rattle.kept_replies.proofs.index.spread_bucket.Goals as goal
use Rattle.kept_replies.proofs.index.spread_bucket.Goals.{then-slot-ne0+in_ok-reserve, else-slot-ne0}

pub loop-slot-preserved : goal.loop-slot-preserved
loop-slot-preserved c =
    let inv = c.loop-slot.invariant in
    let slots = c.args.bucket.now in
    let at = c.loop-slot.slot-index in
    let lt : at < length slots = omega (arith, c.told-bucket, c.loop-slot-test.true) in
    elim c.if-slot-ne0.branch [
      | then-slot-ne0+in_ok-reserve w ↦
          let more = sum_by-drop_more counted slots at 0 lt in
          let before : w.reserve.new.self.items ≡ c.loop-slot.older.items = w.reserve.ensures.items in
          let kept : (t : ℕ) (p : ℕ → Bool) → leads_in c.loop-slot.wider.items c.loop-slot.older.items t p ≡ true → leads_in w.put_slot.new.buckets.items w.put_slot.new.older.items t p ≡ true =
          λ t p lead. w.put_slot.ensures.leads t p (or_left _ (slot_leads t p (get_or slots at 0)) (rw before lead)) in
          rw (w.wider-is, w.older-is) (record {
            kept = λ t p lead. kept t p (inv.kept t p lead);
            leads = λ t p. below_more _ _ (λ k lt lead. kept t p (inv.leads t p k lt lead)) (λ lead. w.put_slot.ensures.leads t p (or_right _ (slot_leads t p (get_or slots at 0)) lead));
            marks = omega (arith, more, counted_other (get_or slots at 0) w.if-slot-ne0.true, ap length before, w.put_slot.ensures.marks, inv.marks);
            count = w.put_slot.ensures.count ∙ inv.count;
          })
      | else-slot-ne0 w ↦
          let more = sum_by-drop_more counted slots at 0 lt in
          rw (w.wider-is, w.older-is) (record {
            kept = inv.kept;
            leads = λ t p. below_more _ _ (inv.leads t p) (λ lead. absurd (both_ways (slot_leads t p (get_or slots at 0)) (ap (slot_leads t p) w.if-slot-ne0.false ∙ empty_leads t p) lead));
            marks = omega (arith, more, ap counted w.if-slot-ne0.false, inv.marks);
            count = inv.count;
          })
    ]

pub returns-clause-leads : goal.returns-clause-leads
returns-clause-leads c = λ t p any.
    let one = Any-from_list_any (slot_leads t p) c.args.bucket.now any in
    let lt = one.2 in
    c.loop-slot.invariant.leads t p one.0 (omega (arith, lt, c.told-bucket, c.loop-slot-test.false)) (ap (slot_leads t p) (get_or_default c.args.bucket.now one.0 0 one.1 lt ∙ one.3) ∙ one.4)
