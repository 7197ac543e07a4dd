use Rattle.std.proofs.Common.{◌≡◌, ℕ, ◌<◌, Bool, true, false, not, eqb, length, filter, refl, sym, ap, ◌∙◌, arith, rules}
use Rattle.std.specs.Prelude.{sum_by}
use Rattle.std.specs.List.{list_any}
use Rattle.std.proofs.lemmas.Bool.{both_ways}
use Rattle.std.proofs.lemmas.Fn.{filter_same}
use Rattle.kept_replies.specs.Index.{bucket_at, slot_leads, leads_in, counted, taken_in}
use Rattle.kept_replies.proofs.IndexLaws.{leads_kept, slot_fails, any_others, counted_one, fewer_left, sum_same, sum_less, older_one, older_alone}
use Rattle.kept_replies.proofs.index.Index.drop_mark.Goals as goal
use Rattle.kept_replies.proofs.index.Index.drop_mark.Goals.{Joined-slot_of, in-Some, in-None}

-- the buckets are as many as before, and lead to the other marks still, and the older ones are as they were
left : (c : Joined-slot_of) (t : ℕ) (p : ℕ → Bool) → p c.args.mark ≡ false
    → (length c.match-slot_of.self-inside.buckets.items ≡ length c.self.inside.buckets.items)
    × ((i : ℕ) → list_any (slot_leads t p) (bucket_at c.self.inside.buckets.items i) ≡ true → list_any (slot_leads t p) (bucket_at c.match-slot_of.self-inside.buckets.items i) ≡ true)
    × (c.match-slot_of.self-inside.older ≡ c.self.inside.older)
left c t p fails =
    elim c.match-slot_of.branch [
      | in-Some w ↦ rw w.self-inside-is (
        w.drop_slot-had_slot.ensures.count,
        λ i. w.drop_slot-had_slot.ensures.left i (slot_leads t p) (slot_fails c.args.tag t p w.in-Some.slot c.args.mark w.in-Some.ensures.read fails),
        refl,
      )
      | in-None w ↦ rw w.self-inside-is (refl, λ i e. e, refl)
    ]

-- where no slot was emptied, they have as many marks as before, and the mark is among the older ones
stayed : (c : Joined-slot_of) → c.match-slot_of.had_slot ≡ false
    → (sum_by taken_in c.match-slot_of.self-inside.buckets.items ≡ sum_by taken_in c.self.inside.buckets.items)
    × (c.match-slot_of.self-inside.older ≡ c.self.inside.older)
    × (leads_in c.self.inside.buckets.items c.self.inside.older.items c.args.tag (λ n. eqb n c.args.mark) ≡ true → list_any (λ n. eqb n c.args.mark) c.self.inside.older.items ≡ true)
stayed c kept =
    let bs = c.self.inside.buckets.items in
    let older = c.self.inside.older.items in
    elim c.match-slot_of.branch [
      | in-Some w ↦
          let its = w.drop_slot-had_slot.ensures in
          let none = its.none (sym w.had_slot-is ∙ kept) in
          rw w.self-inside-is (
            sum_same _ _ (counted w.in-Some.slot) w.drop_slot-had_slot.result its.taken (sym w.had_slot-is ∙ kept),
            refl,
            older_one bs older c.args.tag c.args.mark w.in-Some.slot w.in-Some.ensures.read w.in-Some.ensures.only none.0 none.1,
          )
      | in-None w ↦ rw w.self-inside-is (refl, refl, older_alone bs older c.args.tag c.args.mark w.in-None.ensures.only)
    ]

-- where one was, they have one less
lowered : (c : Joined-slot_of) → c.match-slot_of.had_slot ≡ true
    → (sum_by taken_in c.match-slot_of.self-inside.buckets.items < sum_by taken_in c.self.inside.buckets.items) × (c.match-slot_of.self-inside.older ≡ c.self.inside.older)
lowered c gone =
    elim c.match-slot_of.branch [
      | in-Some w ↦ rw w.self-inside-is (
        sum_less _ _ (counted w.in-Some.slot) w.drop_slot-had_slot.result w.drop_slot-had_slot.ensures.taken (sym w.had_slot-is ∙ gone)
            (counted_one c.args.tag w.in-Some.slot c.args.mark w.in-Some.ensures.read),
        refl,
      )
      | in-None w ↦ absurd (both_ways c.match-slot_of.had_slot w.had_slot-is gone)
    ]

pub returns-then-not-had_slot-clause-left : goal.returns-then-not-had_slot-clause-left
returns-then-not-had_slot-clause-left c = λ t p fails lead.
    let kept = left (goal.at.returns-then-not-had_slot-clause-left c).Joined-slot_of t p fails in
    leads_kept c.self.inside.buckets.items c.match-slot_of.self-inside.buckets.items c.self.inside.older.items c.retain.new.self.items t p kept.0 kept.1
    (any_others p c.args.mark c.self.inside.older.items c.retain.new.self.items fails
    (rw kept.2 at (filter_same _ (λ n. not (eqb n c.args.mark)) _ (λ x b f k. search rules) _ _ c.retain.ensures.filtered))) (rw (← c.self.view_is) at lead)

pub returns-then-not-had_slot-clause-fewer : goal.returns-then-not-had_slot-clause-fewer
returns-then-not-had_slot-clause-fewer c = λ lead.
    let its = stayed (goal.at.returns-then-not-had_slot-clause-fewer c).Joined-slot_of c.if-not-had_slot.true in
    let kept : c.retain.new.self.items ≡ filter (λ n. not (eqb n c.args.mark)) c.self.inside.older.items =
    rw its.1 at (filter_same _ (λ n. not (eqb n c.args.mark)) _ (λ x b f k. search rules) _ _ c.retain.ensures.filtered) in
    let less = fewer_left c.args.mark c.self.inside.older.items (its.2 (rw (← c.self.view_is) at lead)) in
    rw (← c.self.view_is) (omega (arith, its.0, ap length kept, less))

pub returns-else-not-had_slot-clause-left : goal.returns-else-not-had_slot-clause-left
returns-else-not-had_slot-clause-left c = λ t p fails lead.
    let kept = left (goal.at.returns-else-not-had_slot-clause-left c).Joined-slot_of t p fails in
    leads_kept c.self.inside.buckets.items c.match-slot_of.self-inside.buckets.items c.self.inside.older.items c.match-slot_of.self-inside.older.items t p kept.0 kept.1
    (λ any. rw kept.2 any) (rw (← c.self.view_is) at lead)

pub returns-else-not-had_slot-clause-fewer : goal.returns-else-not-had_slot-clause-fewer
returns-else-not-had_slot-clause-fewer c = λ lead.
    let its = lowered (goal.at.returns-else-not-had_slot-clause-fewer c).Joined-slot_of c.if-not-had_slot.false in
    rw (← c.self.view_is) (omega (arith, its.0, ap (λ v. length v.items) its.1))
