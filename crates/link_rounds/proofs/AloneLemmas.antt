-- Where all steps are of one slot, that slot was served as links are that come one after another.
use Rattle.std.proofs.Common.{◌≡◌, ◌⊎◌, inl, inr, ℕ, zero, suc, ◌+◌, Bool, true, false, List, [], ◌∷◌, ◌++◌, length, refl, sym, ap, ap₂, ◌∙◌, subst, arith, append_assoc, length-append, Option}
use Rattle.std.specs.Prelude.{◌==◌, if◌then◌else◌}
use Rattle.mc_outside.specs.LinkView.{LinkView, Failed, after_recv, after_send, next_taken}
use Rattle.millicent_http.specs.Items.{Item}
use Rattle.millicent_http.specs.declared.clock.Clock.{Clock}
use Rattle.millicent_http.specs.Steps.{StepRelation, Did, Run, sent_of, state_after}
use Rattle.millicent_http.specs.Courses.{with_readings, Replied, IsServed, BrokeReceiving, BrokeSending, HadLink, HadLinks}
use Rattle.link_rounds.specs.Together.{Tagged, did_of, state_at, at_slot, StepAt, AllOf}

-- each of these steps comes right behind the one before, the first behind this place
abbrev pub FollowOn : ℕ → List (Did ℕ) → Type 0
FollowOn n [] = Unit {0}
FollowOn n (d ∷ ds) = (d.after ≡ suc n) × FollowOn (suc n) ds

-- the place behind them
place_after : (n : ℕ) (ds : List (Did ℕ)) → FollowOn n ds → state_after n ds ≡ n + length ds
place_after n [] on = omega arith
place_after n (d ∷ ds) on = ap (λ (k : ℕ). state_after k ds) on.0 ∙ place_after (suc n) ds on.1 ∙ shift n (length ds) where
  shift : (a b : ℕ) → suc a + b ≡ a + suc b
  shift a b = omega arith

front_on : (n : ℕ) (xs ys : List (Did ℕ)) → FollowOn n (xs ++ ys) → FollowOn n xs
front_on n [] ys on = tt
front_on n (d ∷ xs) ys on = (on.0, front_on (suc n) xs ys on.1)

back_on : (n : ℕ) (xs ys : List (Did ℕ)) → FollowOn n (xs ++ ys) → FollowOn (state_after n xs) ys
back_on n [] ys on = on
back_on n (d ∷ xs) ys on = subst (λ (k : ℕ). FollowOn (state_after k xs) ys) (sym on.0) (back_on (suc n) xs ys on.1)

module _ {S : Type 0} (Step : StepRelation S) (s : S) (all : List (Tagged S)) where
  -- a step by the state behind it
  abbrev pub as_state : Did ℕ → Did S
  as_state d = record { sent = d.sent; after = state_at s all d.after }

  abbrev pub as_states : List (Did ℕ) → List (Did S)
  as_states [] = []
  as_states (d ∷ ds) = as_state d ∷ as_states ds

  as_states-append : (xs ys : List (Did ℕ)) → as_states (xs ++ ys) ≡ as_states xs ++ as_states ys
  as_states-append [] ys = refl
  as_states-append (d ∷ xs) ys = ap (λ (l : List (Did S)). as_state d ∷ l) (as_states-append xs ys)

  as_sent : (ds : List (Did ℕ)) → sent_of (as_states ds) ≡ sent_of ds
  as_sent [] = refl
  as_sent (d ∷ ds) = ap (λ (l : List ℕ). d.sent ++ l) (as_sent ds)

  as_after : (n : ℕ) (ds : List (Did ℕ)) → state_after (state_at s all n) (as_states ds) ≡ state_at s all (state_after n ds)
  as_after n [] = refl
  as_after n (d ∷ ds) = as_after d.after ds

  run_alone : (n : ℕ) (items : List Item) (readings : List ℕ) (ds : List (Did ℕ)) → FollowOn n ds → Run (StepAt Step s all) n items readings ds → Run Step (state_at s all n) items readings (as_states ds)
  run_alone n [] [] [] on ran = ran
  run_alone n [] [] (d ∷ ds) on ran = absurd ran
  run_alone n [] (r ∷ rs) ds on ran = absurd ran
  run_alone n (x ∷ xs) [] ds on ran = absurd ran
  run_alone n (x ∷ xs) (r ∷ rs) [] on ran = absurd ran
  run_alone n (x ∷ xs) (r ∷ rs) (d ∷ ds) on ran =
      let here : ran.0.place ≡ n = omega (arith, ran.0.next, on.0) in
      let behind : suc ran.0.place ≡ d.after = sym ran.0.next in
      let step : Step (state_at s all n) r x d.sent (state_at s all d.after) = subst (λ (k : ℕ). Step (state_at s all k) r x d.sent (state_at s all d.after)) here (subst (λ (k : ℕ). Step (state_at s all ran.0.place) r x d.sent (state_at s all k)) behind ran.0.step) in
      (step, run_alone d.after xs rs ds (subst (λ (k : ℕ). FollowOn k ds) (sym on.0) on.1) ran.1)

  replied_alone : (clock : Clock) (items : List Item) (ds : List (Did ℕ)) (n : ℕ) (before after : Option (List ℕ)) → FollowOn n ds → Replied (StepAt Step s all) clock items ds n before after → Replied Step clock items (as_states ds) (state_at s all n) before after
  replied_alone clock items ds n before after on r = record { readings = r.readings; read = r.read; ran = run_alone n items r.readings ds on r.ran }

  served_alone : (clock : Clock) (ds : List (Did ℕ)) (n : ℕ) (before after : LinkView) → FollowOn n ds → IsServed (StepAt Step s all) clock ds n before after → IsServed Step clock (as_states ds) (state_at s all n) before after
  served_alone clock ds n before after on is = record {
    got = is.got;
    items = is.items;
    heads = is.heads;
    replied = replied_alone clock is.items ds n before.readings after.readings on is.replied;
    read = is.read;
    to_end = is.to_end;
    sent = is.sent ∙ ap (λ (l : List ℕ). with_readings after.readings (after_send l is.read)) (sym (as_sent ds));
  }

  receiving_alone : (clock : Clock) (ds : List (Did ℕ)) (n : ℕ) (before after : LinkView) → FollowOn n ds → BrokeReceiving (StepAt Step s all) clock ds n before after → BrokeReceiving Step clock (as_states ds) (state_at s all n) before after
  receiving_alone clock ds n before after on is = record {
    got = is.got;
    items = is.items;
    heads = is.heads;
    replied = replied_alone clock is.items ds n before.readings after.readings on is.replied;
    fault = subst (λ (l : List ℕ). Failed (with_readings after.readings (after_send l (after_recv is.got before))) after) (sym (as_sent ds)) is.fault;
  }

  sending_alone : (clock : Clock) (ds : List (Did ℕ)) (n : ℕ) (before after : LinkView) → FollowOn n ds → BrokeSending (StepAt Step s all) clock ds n before after → BrokeSending Step clock (as_states ds) (state_at s all n) before after
  sending_alone clock ds n before after on is =
      let split : FollowOn n (is.done ++ is.step ∷ []) = subst (FollowOn n) is.steps_are on in
      let last : FollowOn (state_after n is.done) (is.step ∷ []) = back_on n is.done (is.step ∷ []) split in
      record {
        got = is.got;
        front = is.front;
        last = is.last;
        first = is.first;
        done = as_states is.done;
        between = is.between;
        replied = replied_alone clock is.front is.done n before.readings is.between (front_on n is.done (is.step ∷ []) split) is.replied;
        reply = is.reply;
        step = as_state is.step;
        replied_last = subst (λ (t : S). Replied Step clock (is.last ∷ []) (record { sent = is.reply; after = state_at s all is.step.after } ∷ []) t is.between after.readings) (sym (as_after n is.done))
            (replied_alone clock (is.last ∷ []) (record { sent = is.reply; after = is.step.after } ∷ []) (state_after n is.done) is.between after.readings (last.0, tt) is.replied_last);
        n = is.n;
        part = is.part;
        sent = is.sent;
        steps_are = ap as_states is.steps_are ∙ as_states-append is.done (is.step ∷ []);
        fault = subst (λ (l : List ℕ). Failed (with_readings after.readings (after_send l (after_recv is.got before))) after) (sym (as_sent ds)) is.fault;
      }

  had_alone : (clock : Clock) (ds : List (Did ℕ)) (n : ℕ) (before after : LinkView) → FollowOn n ds → HadLink (StepAt Step s all) clock ds n before after → HadLink Step clock (as_states ds) (state_at s all n) before after
  had_alone clock ds n before after on is = record { served = is.served; course = course is.course; ended = is.ended } where
    course : IsServed (StepAt Step s all) clock ds n before is.served ⊎ (BrokeReceiving (StepAt Step s all) clock ds n before is.served ⊎ BrokeSending (StepAt Step s all) clock ds n before is.served)
        → IsServed Step clock (as_states ds) (state_at s all n) before is.served ⊎ (BrokeReceiving Step clock (as_states ds) (state_at s all n) before is.served ⊎ BrokeSending Step clock (as_states ds) (state_at s all n) before is.served)
    course (inl c) = inl (served_alone clock ds n before is.served on c)
    course (inr (inl c)) = inr (inl (receiving_alone clock ds n before is.served on c))
    course (inr (inr c)) = inr (inr (sending_alone clock ds n before is.served on c))

  hads_alone : (clock : Clock) (k : ℕ) (ds : List (Did ℕ)) (n : ℕ) (before after : LinkView) → FollowOn n ds → HadLinks (StepAt Step s all) clock k ds n before after → HadLinks Step clock k (as_states ds) (state_at s all n) before after
  hads_alone clock zero ds n before after on had = (ap as_states had.0, had.1)
  hads_alone clock (suc k) ds n before after on had =
      let split : FollowOn n (had.0 ++ had.1) = subst (FollowOn n) had.3 on in (
        as_states had.0,
        as_states had.1,
        had.2,
        ap as_states had.3 ∙ as_states-append had.0 had.1,
        hads_alone clock k had.0 n before had.2 (front_on n had.0 had.1 split) had.4,
        subst (λ (t : S). HadLink Step clock (as_states had.1) t (next_taken had.2) after) (sym (as_after n had.0)) (had_alone clock had.1 (state_after n had.0) (next_taken had.2) after (back_on n had.0 had.1 split) had.5),
      )

-- ---- one slot

own : {S : Type 0} (p n : ℕ) (x : Tagged S) (xs : List (Tagged S)) → (x.slot == p) ≡ true → at_slot p n (x ∷ xs) ≡ record { sent = x.did.sent; after = suc n } ∷ at_slot p (suc n) xs
own p n x xs is = pick (x.slot == p) (record { sent = x.did.sent; after = suc n }) (at_slot p (suc n) xs) is where
  pick : (b : Bool) (d : Did ℕ) (l : List (Did ℕ)) → b ≡ true → (if◌then◌else◌ {A = List (Did ℕ)} b (d ∷ l) l) ≡ d ∷ l
  pick true d l on = refl
  pick false d l on = absurd (cc on)

follow_own : {S : Type 0} (p n : ℕ) (all : List (Tagged S)) → AllOf p all → FollowOn n (at_slot p n all)
follow_own p n [] of = tt
follow_own p n (x ∷ xs) of = subst (FollowOn n) (sym (own p n x xs of.0)) (refl, follow_own p (suc n) xs of.1)

-- the state right behind a step of the order
state_here : {S : Type 0} (s : S) (front : List (Tagged S)) (x : Tagged S) (xs : List (Tagged S)) → state_at s (front ++ x ∷ xs) (suc (length front)) ≡ x.did.after
state_here s [] x xs = refl
state_here s (f ∷ front) x xs = state_here f.did.after front x xs

-- the steps behind a front of the order, by their states
own_states : {S : Type 0} (s : S) (p : ℕ) (front all : List (Tagged S)) (Step : StepRelation S) → AllOf p all → as_states Step s (front ++ all) (at_slot p (length front) all) ≡ did_of all
own_states s p front [] Step of = refl
own_states {S = S} s p front (x ∷ xs) Step of =
    let order : (front ++ x ∷ []) ++ xs ≡ front ++ x ∷ xs = append_assoc front (x ∷ []) xs in
    let long : length (front ++ x ∷ []) ≡ suc (length front) = omega (arith, length-append front (x ∷ [])) in
    let rest : as_states Step s (front ++ x ∷ xs) (at_slot p (suc (length front)) xs) ≡ did_of xs =
    ap₂ (λ (l : List (Tagged S)) (k : ℕ). as_states Step s l (at_slot p k xs)) (sym order) (sym long) ∙ own_states s p (front ++ x ∷ []) xs Step of.1 in
    ap (λ (l : List (Did ℕ)). as_states Step s (front ++ x ∷ xs) l) (own p (length front) x xs of.0)
    ∙ ap₂ (λ (t : S) (l : List (Did S)). record { sent = x.did.sent; after = t } ∷ l) (state_here s front x xs) rest

-- So serving links one after another is serving them in one slot.
pub one_slot : {S : Type 0} (Step : StepRelation S) (clock : Clock) (s : S) (p : ℕ) (all : List (Tagged S)) (n : ℕ) (before after : LinkView) → AllOf p all
    → HadLinks (StepAt Step s all) clock n (at_slot p 0 all) 0 before after → HadLinks Step clock n (did_of all) s before after
one_slot {S = S} Step clock s p all n before after of had =
    subst (λ (ds : List (Did S)). HadLinks Step clock n ds s before after) (own_states s p [] all Step of)
    (hads_alone Step s all clock n (at_slot p 0 all) 0 before after (follow_own p 0 all of) had)
