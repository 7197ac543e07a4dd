use Rattle.std.proofs.Common.{◌≡◌, ℕ, ◌/◌, ◌%◌, Bool, true, List, length, inl, inr, sym, ap, ◌∙◌}
use Rattle.std.specs.List.{list_any}
use Rattle.std.proofs.lemmas.Bool.{or_cases}
use Rattle.kept_replies.specs.declared.index.TheConstants.{MARKS}
use Rattle.kept_replies.specs.Index.{first_place, second_place, bucket_at, slot_leads, leads_in}
use Rattle.kept_replies.proofs.IndexLaws.{leads_kept, leads_first, leads_second, leads_older, mark_passes, empty_leads, any_pushed, any_last}
use Rattle.kept_replies.proofs.index.put_slot.Goals as goal
use Rattle.kept_replies.proofs.index.put_slot.Goals.{Joined-free_at, then-free_at, else-free_at}

-- the buckets are as many as before, and lead to what they did, and to the slot's mark where it was put
put_there : (c : Joined-free_at) (t : ℕ) (p : ℕ → Bool) (older : List ℕ)
    → (length c.if-free_at.buckets.items ≡ length c.args.buckets.now.items)
    × ((i : ℕ) → list_any (slot_leads t p) (bucket_at c.args.buckets.now.items i) ≡ true → list_any (slot_leads t p) (bucket_at c.if-free_at.buckets.items i) ≡ true)
    × (c.if-free_at.put ≡ true → slot_leads t p c.args.slot ≡ true → leads_in c.if-free_at.buckets.items older t p ≡ true)
put_there c t p older =
    let count : c.len-count.result ≡ length c.args.buckets.now.items = c.len-count.ensures ∙ c.args.buckets.now.ok.0 in
    elim c.if-free_at.branch [
      | then-free_at w ↦
          let its = w.replace_at-put.ensures in
          let place : c.second_of-second.result ≡ second_place (c.args.slot / MARKS) (length w.replace_at-put.new.buckets.items) = c.second_of-second.ensures ∙ ap (second_place (c.args.slot / MARKS)) (count ∙ sym its.count) in
          rw w.buckets-is (
            its.count,
            λ i. its.left i (slot_leads t p) (empty_leads t p),
            λ put lead. leads_second w.replace_at-put.new.buckets.items older t p c.args.slot c.second_of-second.result lead place (its.there (sym w.put-is ∙ put) (slot_leads t p) lead),
          )
      | else-free_at w ↦
          let its = w.replace_at-put-else-free_at.ensures in
          let place : c.first_of-first.result ≡ first_place (c.args.slot / MARKS) (length w.replace_at-put-else-free_at.new.buckets.items) = c.first_of-first.ensures ∙ ap (first_place (c.args.slot / MARKS)) (count ∙ sym its.count) in
          rw w.buckets-is (
            its.count,
            λ i. its.left i (slot_leads t p) (empty_leads t p),
            λ put lead. leads_first w.replace_at-put-else-free_at.new.buckets.items older t p c.args.slot c.first_of-first.result lead place (its.there (sym w.put-is ∙ put) (slot_leads t p) lead),
          )
    ]

pub returns-in-Ok-clause-leads : goal.returns-in-Ok-clause-leads
returns-in-Ok-clause-leads c = λ t p either.
    let old = c.args.buckets.now.items in
    let new = c.if-free_at.buckets.items in
    let older = c.args.older.now.items in
    let its = put_there (goal.at.returns-in-Ok-clause-leads c).Joined-free_at t p older in
    rw c.in-Ok.ensures.items
    (elim (or_cases (leads_in old older t p) (slot_leads t p c.args.slot) either) [
      | inl lead ↦ leads_kept old new older _ t p its.0 its.1 (any_pushed p older (c.args.slot % MARKS)) lead
      | inr lead ↦ leads_older new _ t p (any_last p older (c.args.slot % MARKS) (mark_passes t p c.args.slot lead))
    ])

pub returns-else-not-put-clause-leads : goal.returns-else-not-put-clause-leads
returns-else-not-put-clause-leads c = λ t p either.
    let old = c.args.buckets.now.items in
    let new = c.if-free_at.buckets.items in
    let older = c.args.older.now.items in
    let its = put_there (goal.at.returns-else-not-put-clause-leads c).Joined-free_at t p older in
    elim (or_cases (leads_in old older t p) (slot_leads t p c.args.slot) either) [
      | inl lead ↦ leads_kept old new older older t p its.0 its.1 (λ e. e) lead
      | inr lead ↦ its.2 c.if-not-put.false lead
    ]
