-- From house to house, by steps that are counted.
use Rattle.std.proofs.Common.{◌≡◌, ℕ, List, [], ◌++◌, Result, refl, sym, ap, ◌∙◌, subst}
use Rattle.std.specs.Prelude.{map}
use Rattle.std.proofs.lemmas.List.{map-append}
use Rattle.mc_outside.specs.LinkView.{LinkView}
use Rattle.mc_requests.specs.declared.limits.Limits.{Limits}
use Rattle.millicent_http.specs.declared.clock.Clock.{Clock}
use Rattle.millicent_http.specs.Steps.{Did, BySteps, state_after}
use Rattle.millicent_http.proofs.StepLemmas.{state_after-append}
use Rattle.house_core.specs.BenchView.{BenchView}
use Rattle.house_core.specs.declared.tally.Tally.{Tally}
use Rattle.house_core.specs.Session.{State, Step}
use Rattle.house_core.specs.Tallies.{Repeated, ToldState, ToldStep, tallied, told_by}
use Rattle.house_core.specs.Bench.{Refines, tally_of}
use Rattle.house_state.specs.Trade.{TradeView}
use Rattle.house_core.proofs.TallyLaws.{tallied_none, tallied_more}
use Rattle.house_serving.specs.declared.serving.BenchEnd.{BenchEnd}
use Rattle.house_serving.specs.Served.{Served}
use Rattle.house_serving.specs.Counting.{Counts, told_state}
use Rattle.house_serving.proofs.OtherStates.{after_over, all_over}

-- where steps have one property, they have another
pub counts_so : {T : Type 0} (trade : T → TradeView) (P Q : List (Did ToldState) → ToldState → Type 0) (a b : BenchView T)
    → ((ds : List (Did ToldState)) (s : ToldState) → P ds s → Q ds s) → Counts trade P a b → Counts trade Q a b
counts_so trade P Q a b so went h told house =
    let came = went h told house in
    record {
      steps = came.steps;
      did = so came.steps (told_state told h a) came.did;
      history = came.history;
      house = came.house;
      state = came.state;
      tally = came.tally;
      within = came.within;
    }

-- steps and others after them
pub counts_then : {T : Type 0} (trade : T → TradeView) (P Q R : List (Did ToldState) → ToldState → Type 0) (a b c : BenchView T)
    → ((ds es : List (Did ToldState)) (s : ToldState) → P ds s → Q es (state_after s ds) → R (ds ++ es) s)
    → Counts trade P a b → Counts trade Q b c → Counts trade R a c
counts_then trade P Q R a b c so first second h told house =
    let s : ToldState = told_state told h a in
    let one = first h told house in
    let mid : ToldState = state_after s one.steps in
    let is : told_state mid.told_last one.history b ≡ mid = ap (λ (t : State). record { state = t; told_last = mid.told_last }) (sym one.state) in
    let two = second one.history mid.told_last one.house in
    record {
      steps = one.steps ++ two.steps;
      did = so one.steps two.steps s one.did (subst (λ (u : ToldState). Q two.steps u) is two.did);
      history = two.history;
      house = two.house;
      state = ap (λ (u : ToldState). u.state) (state_after-append s one.steps two.steps) ∙ ap (λ (u : ToldState). (state_after u two.steps).state) (sym is) ∙ two.state;
      tally = λ within.
          two.tally (one.within within) ∙ ap (λ (t : Tally). tallied t (told_by two.steps)) (one.tally within) ∙ tallied_more (tally_of a) (told_by one.steps) (told_by two.steps)
          ∙ ap (tallied (tally_of a)) (sym (map-append (λ (d : Did ToldState). d.after.told_last) one.steps two.steps));
      within = λ within. two.within (one.within within);
    }

-- no step was done
pub counts_nowhere : {T : Type 0} (trade : T → TradeView) (P : List (Did ToldState) → ToldState → Type 0) (b : BenchView T)
    → ((s : ToldState) → P [] s) → Counts trade P b b
counts_nowhere trade P b so h told house = record {
  steps = [];
  did = so (told_state told h b);
  history = h;
  house = house;
  state = refl;
  tally = λ within. tallied_none (tally_of b) within.counts;
  within = λ within. within;
}

-- what links were served by counted steps they were served by steps
pub counts_served : {T : Type 0} (trade : T → TradeView) (limits : Limits) (clock : Clock) (links : ℕ) (result : Result ℕ BenchEnd) (a b : BenchView T) (before after : LinkView)
    → Counts trade (λ steps s. Served (ToldStep limits) clock links result steps s before after) a b
    → Refines trade (BySteps (λ steps s. Served (Step limits) clock links result steps s before after)) a b
counts_served trade limits clock links result a b before after went h house =
    let came = went h Repeated house in
    let s : ToldState = told_state Repeated h a in
    let state : ToldState → State = λ s. s.state in
    record {
      history = came.history;
      house = came.house;
      related = (
        map (λ (d : Did ToldState). record { sent = d.sent; after = d.after.state }) came.steps,
        sym came.state ∙ sym (after_over state s came.steps),
        all_over state (ToldStep limits) (Step limits) (λ u reading item reply t step. step.step) clock links result came.steps s before after came.did,
      );
    }
