-- What was served in a slot stays so as the order of all steps goes on.
use Rattle.std.proofs.Common.{◌≡◌, ◌⊎◌, inl, inr, ℕ, zero, suc, ◌+◌, ◌≤◌, true, false, List, [], ◌∷◌, ◌++◌, length, take, refl, sym, ap, ◌∙◌, subst, arith, Bool, Option}
use Rattle.std.specs.Prelude.{◌==◌, if◌then◌else◌}
use Rattle.mc_outside.specs.LinkView.{LinkView}
use Rattle.millicent_http.specs.Items.{Item}
use Rattle.millicent_http.specs.declared.clock.Clock.{Clock}
use Rattle.millicent_http.specs.Steps.{StepRelation, Did, Run, state_after}
use Rattle.millicent_http.specs.Courses.{Replied, IsServed, BrokeReceiving, BrokeSending, HadLink, HadLinks}
use Rattle.link_rounds.specs.Together.{Tagged, did_of, state_at, at_slot, StepAt}

-- ---- another step relation that has all the steps of the first

module _ {S : Type 0} (P Q : StepRelation S) (so : (s : S) (reading : ℕ) (item : Item) (reply : List ℕ) (t : S) → P s reading item reply t → Q s reading item reply t) where
  run_so : (s : S) (items : List Item) (readings : List ℕ) (ds : List (Did S)) → Run P s items readings ds → Run Q s items readings ds
  run_so s [] [] [] ran = ran
  run_so s [] [] (d ∷ ds) ran = absurd ran
  run_so s [] (r ∷ rs) ds ran = absurd ran
  run_so s (x ∷ xs) [] ds ran = absurd ran
  run_so s (x ∷ xs) (r ∷ rs) [] ran = absurd ran
  run_so s (x ∷ xs) (r ∷ rs) (d ∷ ds) ran = (so s r x d.sent d.after ran.0, run_so d.after xs rs ds ran.1)

  pub replied_so : (clock : Clock) (items : List Item) (ds : List (Did S)) (s : S) (before after : Option (List ℕ)) → Replied P clock items ds s before after → Replied Q clock items ds s before after
  replied_so clock items ds s before after r = record { readings = r.readings; read = r.read; ran = run_so s items r.readings ds r.ran }

  served_so : (clock : Clock) (ds : List (Did S)) (s : S) (before after : LinkView) → IsServed P clock ds s before after → IsServed Q clock ds s before after
  served_so clock ds s before after is = record {
    got = is.got;
    items = is.items;
    heads = is.heads;
    replied = replied_so clock is.items ds s before.readings after.readings is.replied;
    read = is.read;
    to_end = is.to_end;
    sent = is.sent;
  }

  receiving_so : (clock : Clock) (ds : List (Did S)) (s : S) (before after : LinkView) → BrokeReceiving P clock ds s before after → BrokeReceiving Q clock ds s before after
  receiving_so clock ds s before after is = record {
    got = is.got;
    items = is.items;
    heads = is.heads;
    replied = replied_so clock is.items ds s before.readings after.readings is.replied;
    fault = is.fault;
  }

  sending_so : (clock : Clock) (ds : List (Did S)) (s : S) (before after : LinkView) → BrokeSending P clock ds s before after → BrokeSending Q clock ds s before after
  sending_so clock ds s before after is = record {
    got = is.got;
    front = is.front;
    last = is.last;
    first = is.first;
    done = is.done;
    between = is.between;
    replied = replied_so clock is.front is.done s before.readings is.between is.replied;
    reply = is.reply;
    step = is.step;
    replied_last = replied_so clock (is.last ∷ []) _ (state_after s is.done) is.between after.readings is.replied_last;
    n = is.n;
    part = is.part;
    sent = is.sent;
    steps_are = is.steps_are;
    fault = is.fault;
  }

  pub had_so : (clock : Clock) (ds : List (Did S)) (s : S) (before after : LinkView) → HadLink P clock ds s before after → HadLink Q clock ds s before after
  had_so clock ds s before after is = record { served = is.served; course = course is.course; ended = is.ended } where
    course : IsServed P clock ds s before is.served ⊎ (BrokeReceiving P clock ds s before is.served ⊎ BrokeSending P clock ds s before is.served)
        → IsServed Q clock ds s before is.served ⊎ (BrokeReceiving Q clock ds s before is.served ⊎ BrokeSending Q clock ds s before is.served)
    course (inl c) = inl (served_so clock ds s before is.served c)
    course (inr (inl c)) = inr (inl (receiving_so clock ds s before is.served c))
    course (inr (inr c)) = inr (inr (sending_so clock ds s before is.served c))

  pub hads_so : (clock : Clock) (n : ℕ) (ds : List (Did S)) (s : S) (before after : LinkView) → HadLinks P clock n ds s before after → HadLinks Q clock n ds s before after
  hads_so clock zero ds s before after had = had
  hads_so clock (suc n) ds s before after had =
      (had.0, had.1, had.2, had.3, hads_so clock n had.0 s before had.2 had.4, had_so clock had.1 (state_after s had.0) _ after had.5)

-- ---- as the order goes on

front_stays : {A : Type 0} (k : ℕ) (xs ys : List A) → k ≤ length xs → take k (xs ++ ys) ≡ take k xs
front_stays zero xs ys within = refl
front_stays (suc k) [] ys within = absurd (omega (arith, within))
front_stays (suc k) (x ∷ xs) ys within = ap (λ (l : List _). x ∷ l) (front_stays k xs ys (omega (arith, within)))

length-both : {A : Type 0} (xs ys : List A) → length xs ≤ length (xs ++ ys)
length-both [] ys = omega arith
length-both (x ∷ xs) ys = omega (arith, length-both xs ys)

state_stays : {S : Type 0} (s : S) (all more : List (Tagged S)) (k : ℕ) → k ≤ length all → state_at s all k ≡ state_at s (all ++ more) k
state_stays {S = S} s all more k within = ap (λ (l : List (Tagged S)). state_after s (did_of l)) (sym (front_stays k all more within))

-- a step of the order so far is one of the order as it goes on
pub step_at_more : {S : Type 0} (Step : StepRelation S) (s : S) (all more : List (Tagged S)) (n reading : ℕ) (item : Item) (reply : List ℕ) (m : ℕ)
    → StepAt Step s all n reading item reply m → StepAt Step s (all ++ more) n reading item reply m
step_at_more {S = S} Step s all more n reading item reply m is = record {
  place = is.place;
  later = is.later;
  next = is.next;
  within = omega (arith, is.within, length-both all more);
  step = subst (λ (t : S). Step t reading item reply (state_at s (all ++ more) (suc is.place))) (state_stays s all more is.place (omega (arith, is.within)))
      (subst (λ (t : S). Step (state_at s all is.place) reading item reply t) (state_stays s all more (suc is.place) (omega (arith, is.within))) is.step);
}

-- so are the links of a slot
pub slot_goes_on : {S : Type 0} (Step : StepRelation S) (clock : Clock) (s : S) (all more : List (Tagged S)) (n : ℕ) (ds : List (Did ℕ)) (from : ℕ) (before after : LinkView)
    → HadLinks (StepAt Step s all) clock n ds from before after → HadLinks (StepAt Step s (all ++ more)) clock n ds from before after
slot_goes_on Step clock s all more n ds from before after had = hads_so (StepAt Step s all) (StepAt Step s (all ++ more)) (step_at_more Step s all more) clock n ds from before after had

-- the steps of a slot among others and those behind them
pub at_slot-append : {S : Type 0} (p n : ℕ) (all more : List (Tagged S)) → at_slot p n (all ++ more) ≡ at_slot p n all ++ at_slot p (n + length all) more
at_slot-append p n [] more = ap (λ (k : ℕ). at_slot p k more) (none n) where
  none : (m : ℕ) → m ≡ m + 0
  none m = omega arith
at_slot-append {S = S} p n (x ∷ xs) more =
    pick (x.slot == p) (record { sent = x.did.sent; after = suc n }) (at_slot p (suc n) xs) (at_slot p (suc n) (xs ++ more)) (at_slot p (n + length (x ∷ xs)) more)
    (at_slot-append p (suc n) xs more ∙ ap (λ (k : ℕ). at_slot p (suc n) xs ++ at_slot p k more) (further n (length xs)))
  where
    further : (a b : ℕ) → suc a + b ≡ a + suc b
    further a b = omega arith

    pick : (b : Bool) (d : Did ℕ) (u v w : List (Did ℕ)) → v ≡ u ++ w → (if b then d ∷ v else v) ≡ (if b then d ∷ u else u) ++ w
    pick true d u v w is = ap (λ (l : List (Did ℕ)). d ∷ l) is
    pick false d u v w is = is
