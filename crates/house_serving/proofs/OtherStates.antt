-- The same steps over other states, of which a step relation asks no more.
use Rattle.std.proofs.Common.{◌≡◌, inl, inr, ℕ, zero, suc, List, [], ◌∷◌, ◌++◌, Result, Ok, Err, refl, sym, ap, ◌∙◌, subst}
use Rattle.std.specs.Prelude.{map, Option}
use Rattle.std.proofs.lemmas.List.{map-append}
use Rattle.mc_outside.specs.LinkView.{LinkView, next_taken}
use Rattle.millicent_http.specs.Items.{Item}
use Rattle.millicent_http.specs.declared.clock.Clock.{Clock}
use Rattle.millicent_http.specs.Steps.{StepRelation, Did, sent_of, state_after, Run}
use Rattle.millicent_http.specs.Courses.{Replied, IsServed, BrokeReceiving, BrokeSending, HadLink, HadLinks}
use Rattle.house_serving.specs.declared.serving.BenchEnd.{BenchEnd}
use Rattle.house_serving.specs.declared.serving.BenchEnd.TheVariants as ends
use Rattle.house_serving.specs.Served.{Served}

-- the same step over other states
abbrev over : {S R : Type 0} → (S → R) → Did S → Did R
over f d = record { sent = d.sent; after = f d.after }

-- a step of the one relation is one of the other, over other states
abbrev pub IsStepOf : {S R : Type 0} → (S → R) → StepRelation S → StepRelation R → Type 0
IsStepOf {S} f Step Other = (s : S) (reading : ℕ) (item : Item) (reply : List ℕ) (t : S) → Step s reading item reply t → Other (f s) reading item reply (f t)

sent_over : {S R : Type 0} (f : S → R) (ds : List (Did S)) → sent_of (map (over f) ds) ≡ sent_of ds
sent_over f [] = refl
sent_over f (d ∷ ds) = ap (λ (l : List ℕ). d.sent ++ l) (sent_over f ds)

pub after_over : {S R : Type 0} (f : S → R) (s : S) (ds : List (Did S)) → state_after (f s) (map (over f) ds) ≡ f (state_after s ds)
after_over f s [] = refl
after_over f s (d ∷ ds) = after_over f d.after ds

run_over : {S R : Type 0} (f : S → R) (Step : StepRelation S) (Other : StepRelation R) → IsStepOf f Step Other → (s : S) (items : List Item) (readings : List ℕ) (ds : List (Did S))
    → Run Step s items readings ds → Run Other (f s) items readings (map (over f) ds)
run_over f Step Other so s [] [] [] ran = ran
run_over f Step Other so s [] [] (d ∷ ds) ran = absurd ran
run_over f Step Other so s [] (r ∷ rs) ds ran = absurd ran
run_over f Step Other so s (x ∷ xs) [] ds ran = absurd ran
run_over f Step Other so s (x ∷ xs) (r ∷ rs) [] ran = absurd ran
run_over f Step Other so s (x ∷ xs) (r ∷ rs) (d ∷ ds) ran = (so s r x d.sent d.after ran.0, run_over f Step Other so d.after xs rs ds ran.1)

replied_over : {S R : Type 0} (f : S → R) (Step : StepRelation S) (Other : StepRelation R) → IsStepOf f Step Other → (clock : Clock) (items : List Item) (ds : List (Did S)) (s : S) (before after : Option (List ℕ))
    → Replied Step clock items ds s before after → Replied Other clock items (map (over f) ds) (f s) before after
replied_over f Step Other so clock items ds s before after is = record { readings = is.readings; read = is.read; ran = run_over f Step Other so s items is.readings ds is.ran }

-- ---- one link

served_over : {S R : Type 0} (f : S → R) (Step : StepRelation S) (Other : StepRelation R) → IsStepOf f Step Other → (clock : Clock) (ds : List (Did S)) (s : S) (before after : LinkView)
    → IsServed Step clock ds s before after → IsServed Other clock (map (over f) ds) (f s) before after
served_over f Step Other so clock ds s before after is = record {
  got = is.got;
  items = is.items;
  heads = is.heads;
  replied = replied_over f Step Other so clock is.items ds s before.readings after.readings is.replied;
  read = is.read;
  to_end = is.to_end;
  sent = rw (sent_over f ds) is.sent;
}

receiving_over : {S R : Type 0} (f : S → R) (Step : StepRelation S) (Other : StepRelation R) → IsStepOf f Step Other → (clock : Clock) (ds : List (Did S)) (s : S) (before after : LinkView)
    → BrokeReceiving Step clock ds s before after → BrokeReceiving Other clock (map (over f) ds) (f s) before after
receiving_over f Step Other so clock ds s before after is = record {
  got = is.got;
  items = is.items;
  heads = is.heads;
  replied = replied_over f Step Other so clock is.items ds s before.readings after.readings is.replied;
  fault = rw (sent_over f ds) is.fault;
}

sending_over : {S R : Type 0} (f : S → R) (Step : StepRelation S) (Other : StepRelation R) → IsStepOf f Step Other → (clock : Clock) (ds : List (Did S)) (s : S) (before after : LinkView)
    → BrokeSending Step clock ds s before after → BrokeSending Other clock (map (over f) ds) (f s) before after
sending_over {S = S} {R = R} f Step Other so clock ds s before after is =
    let last : Did S = record { sent = is.reply; after = is.step.after } in
    record {
      got = is.got;
      front = is.front;
      last = is.last;
      first = is.first;
      done = map (over f) is.done;
      between = is.between;
      replied = replied_over f Step Other so clock is.front is.done s before.readings is.between is.replied;
      reply = is.reply;
      step = over f is.step;
      replied_last = subst (λ (t : R). Replied Other clock (is.last ∷ []) (over f last ∷ []) t is.between after.readings) (sym (after_over f s is.done))
          (replied_over f Step Other so clock (is.last ∷ []) (last ∷ []) (state_after s is.done) is.between after.readings is.replied_last);
      n = is.n;
      part = is.part;
      sent = is.sent;
      steps_are = ap (map (over f)) is.steps_are ∙ map-append (over f) is.done (is.step ∷ []);
      fault = rw (sent_over f ds) is.fault;
    }

link_over : {S R : Type 0} (f : S → R) (Step : StepRelation S) (Other : StepRelation R) → IsStepOf f Step Other → (clock : Clock) (ds : List (Did S)) (s : S) (before after : LinkView)
    → HadLink Step clock ds s before after → HadLink Other clock (map (over f) ds) (f s) before after
link_over f Step Other so clock ds s before after is = record {
  served = is.served;
  course = elim is.course [
    | inl one ↦ inl (served_over f Step Other so clock ds s before is.served one)
    | inr other ↦ elim other [
      | inl one ↦ inr (inl (receiving_over f Step Other so clock ds s before is.served one))
      | inr one ↦ inr (inr (sending_over f Step Other so clock ds s before is.served one))
    ]
  ];
  ended = is.ended;
}

-- ---- links one after another

links_over : {S R : Type 0} (f : S → R) (Step : StepRelation S) (Other : StepRelation R) → IsStepOf f Step Other → (clock : Clock) (n : ℕ) (ds : List (Did S)) (s : S) (before after : LinkView)
    → HadLinks Step clock n ds s before after → HadLinks Other clock n (map (over f) ds) (f s) before after
links_over f Step Other so clock zero ds s before after is = (ap (map (over f)) is.0, is.1)
links_over {S = S} {R = R} f Step Other so clock (suc n) ds s before after is =
    let front : List (Did S) = is.0 in
    let last : List (Did S) = is.1 in (
      map (over f) front,
      map (over f) last,
      is.2,
      ap (map (over f)) is.3 ∙ map-append (over f) front last,
      links_over f Step Other so clock n front s before is.2 is.4,
      subst (λ (t : R). HadLink Other clock (map (over f) last) t (next_taken is.2) after) (sym (after_over f s front))
          (link_over f Step Other so clock last (state_after s front) (next_taken is.2) after is.5),
    )

-- links were served
pub all_over : {S R : Type 0} (f : S → R) (Step : StepRelation S) (Other : StepRelation R) → IsStepOf f Step Other → (clock : Clock) (links : ℕ) (result : Result ℕ BenchEnd) (ds : List (Did S)) (s : S) (before after : LinkView)
    → Served Step clock links result ds s before after → Served Other clock links result (map (over f) ds) (f s) before after
all_over f Step Other so clock links (Ok n) ds s before after is = elim is [
  | inl all ↦ inl (all.0, links_over f Step Other so clock n ds s before after all.1)
  | inr few ↦ inr (few.0, (few.1.0, links_over f Step Other so clock n ds s before few.1.0 few.1.1, few.1.2))
]
all_over f Step Other so clock links (Err ends.NoMemory) ds s before after is = (ap (map (over f)) is.0, is.1)
all_over f Step Other so clock links (Err ends.Link) ds s before after is = record {
  n = is.n;
  few = is.few;
  between = is.between;
  links_had = links_over f Step Other so clock is.n ds s before is.between is.links_had;
  fault = is.fault;
}
