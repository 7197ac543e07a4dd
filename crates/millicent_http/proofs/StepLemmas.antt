-- Steps, and others after them.
use Rattle.std.proofs.Common.{◌≡◌, ℕ, List, [], ◌∷◌, ◌++◌, refl, sym, ap, ◌∙◌, append_assoc, subst}
use Rattle.std.proofs.lemmas.List.{append-nil}
use Rattle.millicent_http.specs.Items.{Item}
use Rattle.millicent_http.specs.Steps.{Did, sent_of, state_after, BySteps, Run, StepRelation}

-- what they sent
pub sent_of-append : {S : Type 0} (ds es : List (Did S)) → sent_of (ds ++ es) ≡ sent_of ds ++ sent_of es
sent_of-append [] es = refl
sent_of-append (d ∷ ds) es = ap (λ (l : List ℕ). d.sent ++ l) (sent_of-append ds es) ∙ sym (append_assoc d.sent (sent_of ds) (sent_of es))

-- the state after them
pub state_after-append : {S : Type 0} (s : S) (ds es : List (Did S)) → state_after s (ds ++ es) ≡ state_after (state_after s ds) es
state_after-append s [] es = refl
state_after-append s (d ∷ ds) es = state_after-append d.after ds es

-- the steps of more items
pub run_more : {S : Type 0} (Step : StepRelation S) (s : S) (xs ys : List Item) (rs qs : List ℕ) (ds es : List (Did S))
    → Run Step s xs rs ds → Run Step (state_after s ds) ys qs es → Run Step s (xs ++ ys) (rs ++ qs) (ds ++ es)
run_more Step s [] ys [] qs [] es first second = second
run_more Step s [] ys [] qs (d ∷ ds) es first second = absurd first
run_more Step s [] ys (r ∷ rs) qs ds es first second = absurd first
run_more Step s (x ∷ xs) ys [] qs ds es first second = absurd first
run_more Step s (x ∷ xs) ys (r ∷ rs) qs [] es first second = absurd first
run_more Step s (x ∷ xs) ys (r ∷ rs) qs (d ∷ ds) es first second = (first.0, run_more Step d.after xs ys rs qs ds es first.1 second)

-- one step sent this after the others
pub sent_one : {S : Type 0} (ds es : List (Did S)) (d : Did S) → es ≡ d ∷ [] → sent_of (ds ++ es) ≡ sent_of ds ++ d.sent
sent_one {S = S} ds es d one = sent_of-append ds es ∙ ap (λ (l : List (Did S)). sent_of ds ++ sent_of l) one ∙ ap (λ (l : List ℕ). sent_of ds ++ l) (append-nil d.sent)

-- no step came after the others
pub none_after : {S : Type 0} (ds es : List (Did S)) → es ≡ [] → ds ++ es ≡ ds
none_after {S = S} ds es none = ap (λ (l : List (Did S)). ds ++ l) none ∙ append-nil ds

-- ---- from state to state

-- where steps have one property, they have another
pub by_steps_so : {S : Type 0} (P Q : List (Did S) → S → Type 0) (s t : S) → ((ds : List (Did S)) → P ds s → Q ds s) → BySteps P s t → BySteps Q s t
by_steps_so P Q s t so by = (by.0, by.1, so by.0 by.2)

-- steps and others after them
pub by_steps_then : {S : Type 0} (P Q R : List (Did S) → S → Type 0) (s t u : S) → ((ds es : List (Did S)) → P ds s → Q es (state_after s ds) → R (ds ++ es) s)
    → BySteps P s t → BySteps Q t u → BySteps R s u
by_steps_then {S = S} P Q R s t u so first second = (
  first.0 ++ second.0,
  second.1 ∙ ap (λ (v : S). state_after v second.0) first.1 ∙ sym (state_after-append s first.0 second.0),
  so first.0 second.0 first.2 (subst (λ (v : S). Q second.0 v) first.1 second.2),
)
