-- What a house serves keeps its history lawful.
use Rattle.std.proofs.Common.{◌≡◌, inl, inr, ℕ, zero, suc, ◌≤◌, ◌^◌, List, [], ◌∷◌, ◌++◌, refl, sym, subst, arith}
use Rattle.mc_outside.specs.LinkView.{LinkView, next_taken}
use Rattle.mc_requests.specs.declared.limits.Limits.{Limits}
use Rattle.mc_requests.specs.Requests.{Asked}
use Rattle.mc_records.specs.Entry.{Entry}
use Rattle.ledger_model.specs.Histories.{time}
use Rattle.ledger_model.specs.Answer as answers
use Rattle.ledger_model.specs.Answer.{Answer, answer}
use Rattle.ledger_model.specs.Lawful.{IsLawful}
use Rattle.ledger_model.proofs.FollowLaws.{taken_lawful}
use Rattle.ledger_model.proofs.TableLaws.{taken_moment}
use Rattle.millicent_http.specs.Items.{Item, request, refused}
use Rattle.millicent_http.specs.declared.clock.Clock.TheVariants.{OfLinks}
use Rattle.millicent_http.specs.Steps.{Did, state_after, Run}
use Rattle.millicent_http.specs.Courses.{HadLink, HadLinks, ServedAll}
use Rattle.millicent_http.proofs.StepLemmas.{state_after-append}
use Rattle.house_core.specs.Session.{State, Gives, Step, raised, entered}
use Rattle.house_core.proofs.Entered.{time_snoc}
use Rattle.house_serving.specs.InDoubt.{InDoubtLinks}

-- the history is lawful, and no entry is after the house time
pub record IsSound (limits : Limits) (s : State) : Type 0 where
  pub lawful : IsLawful limits s.history
  pub in_time : time s.history ≤ s.time

pub taken_sound : (limits : Limits) (s : State) (q : Asked) (e : Entry) → limits.journal ≤ 2 ^ 40 → IsSound limits s → answer s.history s.time limits q ≡ answers.Take e → IsSound limits (entered s e)
taken_sound limits s q e small sound is = record {
  lawful = taken_lawful s.history s.time limits q e sound.lawful sound.in_time small is;
  in_time = omega (arith, time_snoc s.history e, taken_moment s.history s.time limits q e is, sound.in_time);
}

gives_sound : (limits : Limits) (s : State) (q : Asked) (a : Answer) (reply : List ℕ) (t : State) → limits.journal ≤ 2 ^ 40 → IsSound limits s → answer s.history s.time limits q ≡ a → Gives s q a reply t → IsSound limits t
gives_sound limits s q (answers.Take e) reply t small sound is (inl new) = subst (λ (u : State). IsSound limits u) (sym new.1) (taken_sound limits s q e small sound is)
gives_sound limits s q (answers.Take e) reply t small sound is (inr starved) = subst (λ (u : State). IsSound limits u) (sym starved.1) sound
gives_sound limits s q (answers.Again n) reply t small sound is gives = subst (λ (u : State). IsSound limits u) (sym gives.1) sound
gives_sound limits s q (answers.Refused f) reply t small sound is gives = subst (λ (u : State). IsSound limits u) (sym gives.1) sound

pub raised_sound : (limits : Limits) (s : State) (reading : ℕ) → IsSound limits s → IsSound limits (raised s reading)
raised_sound limits s reading sound = record { lawful = sound.lawful; in_time = omega (arith, sound.in_time) }

step_sound : (limits : Limits) (s : State) (reading : ℕ) (item : Item) (reply : List ℕ) (t : State) → limits.journal ≤ 2 ^ 40 → IsSound limits s → Step limits s reading item reply t → IsSound limits t
step_sound limits s reading (request q closes) reply t small sound step = gives_sound limits (raised s reading) q _ reply t small (raised_sound limits s reading sound) refl step
step_sound limits s reading (refused f closes) reply t small sound step = subst (λ (u : State). IsSound limits u) (sym step.1) (raised_sound limits s reading sound)

run_sound : (limits : Limits) (s : State) (items : List Item) (readings : List ℕ) (steps : List (Did State)) → limits.journal ≤ 2 ^ 40 → IsSound limits s → Run (Step limits) s items readings steps → IsSound limits (state_after s steps)
run_sound limits s [] [] [] small sound run = sound
run_sound limits s [] [] (d ∷ ds) small sound run = absurd run
run_sound limits s [] (r ∷ rs) steps small sound run = absurd run
run_sound limits s (i ∷ is) [] steps small sound run = absurd run
run_sound limits s (i ∷ is) (r ∷ rs) [] small sound run = absurd run
run_sound limits s (i ∷ is) (r ∷ rs) (d ∷ ds) small sound run = run_sound limits d.after is rs ds small (step_sound limits s r i d.sent d.after small sound run.0) run.1

-- links that were served
link_sound : (limits : Limits) (steps : List (Did State)) (s : State) (before after : LinkView) → limits.journal ≤ 2 ^ 40 → IsSound limits s → HadLink (Step limits) OfLinks steps s before after → IsSound limits (state_after s steps)
link_sound limits steps s before after small sound had = elim had.course [
  | inl served ↦ run_sound limits s served.items served.replied.readings steps small sound served.replied.ran
  | inr broke ↦ elim broke [
    | inl receiving ↦ run_sound limits s receiving.items receiving.replied.readings steps small sound receiving.replied.ran
    | inr sending ↦
        let so = run_sound limits s sending.front sending.replied.readings sending.done small sound sending.replied.ran in
        let last = run_sound limits (state_after s sending.done) (sending.last ∷ []) sending.replied_last.readings _ small so sending.replied_last.ran in
        subst (λ (l : List (Did State)). IsSound limits (state_after s l)) (sym sending.steps_are)
        (subst (λ (t : State). IsSound limits t) (sym (state_after-append s sending.done (sending.step ∷ []))) last)
  ]
]

pub links_sound : (limits : Limits) (n : ℕ) (steps : List (Did State)) (s : State) (before after : LinkView) → limits.journal ≤ 2 ^ 40 → IsSound limits s → HadLinks (Step limits) OfLinks n steps s before after → IsSound limits (state_after s steps)
links_sound limits zero steps s before after small sound had = subst (λ (l : List (Did State)). IsSound limits (state_after s l)) (sym had.0) sound
links_sound limits (suc n) steps s before after small sound had =
    let so = links_sound limits n had.0 s before had.2 small sound had.4 in
    let last = link_sound limits had.1 (state_after s had.0) (next_taken had.2) after small so had.5 in
    subst (λ (l : List (Did State)). IsSound limits (state_after s l)) (sym had.3) (subst (λ (t : State). IsSound limits t) (sym (state_after-append s had.0 had.1)) last)

pub all_sound : (limits : Limits) (links n : ℕ) (steps : List (Did State)) (s : State) (before after : LinkView) → limits.journal ≤ 2 ^ 40 → IsSound limits s → ServedAll (Step limits) OfLinks links n steps s before after → IsSound limits (state_after s steps)
all_sound limits links n steps s before after small sound (inl all) = links_sound limits n steps s before after small sound all.1
all_sound limits links n steps s before after small sound (inr over) = links_sound limits n steps s before over.1.0 small sound over.1.1

-- links up to a request whose entry is in doubt: with the entry or without it
pub doubt_sound : (limits : Limits) (links : ℕ) (steps : List (Did State)) (s : State) (before : LinkView) (e : Entry) (said : List ℕ) (after : LinkView) → limits.journal ≤ 2 ^ 40 → IsSound limits s → InDoubtLinks limits links steps s before e said after
    → IsSound limits (state_after s steps) × IsLawful limits ((state_after s steps).history ++ e ∷ [])
doubt_sound limits links steps s before e said after small sound doubt =
    let front = links_sound limits doubt.n doubt.front s before doubt.between small sound doubt.links_had in
    let last = doubt.last_link in
    let so = run_sound limits (state_after s doubt.front) last.front last.replied.readings doubt.last small front last.replied.ran in
    let here = raised_sound limits (state_after (state_after s doubt.front) doubt.last) last.in_doubt.reading so in
    let both : IsSound limits (state_after (state_after s doubt.front) doubt.last) × IsLawful limits ((state_after (state_after s doubt.front) doubt.last).history ++ e ∷ []) =
    (so, (taken_sound limits (raised (state_after (state_after s doubt.front) doubt.last) last.in_doubt.reading) last.q e small here last.in_doubt.takes).lawful) in
    subst (λ (l : List (Did State)). IsSound limits (state_after s l) × IsLawful limits ((state_after s l).history ++ e ∷ [])) (sym doubt.steps_are)
    (subst (λ (t : State). IsSound limits t × IsLawful limits (t.history ++ e ∷ [])) (sym (state_after-append s doubt.front doubt.last)) both)
