-- From state to state.
use Rattle.std.proofs.Common.{List, [], ◌++◌, refl}
use Rattle.millicent_http.specs.Steps.{Did, state_after, BySteps}
use Rattle.millicent_http.proofs.StepLemmas.{by_steps_so, by_steps_then}
use Rattle.house_core.specs.BenchView.{BenchView}
use Rattle.house_core.specs.Bench.{Reaches, Refines, state_of}
use Rattle.house_core.specs.Session.{State}
use Rattle.house_state.specs.Trade.{TradeView}

-- where one relation leads, another does
pub came_so : {T : Type 0} (trade : T → TradeView) (P Q : State → Type 0) (b : BenchView T)
    → ((t : State) → P t → Q t) → Reaches trade P b → Reaches trade Q b
came_so trade P Q b so came = record { history = came.history; house = came.house; related = so (state_of came.history b) came.related }

pub went_so : {T : Type 0} (trade : T → TradeView) (R S : State → State → Type 0) (a b : BenchView T)
    → ((s t : State) → R s t → S s t) → Refines trade R a b → Refines trade S a b
went_so trade R S a b so went h house = came_so trade (R (state_of h a)) (S (state_of h a)) b (so (state_of h a)) (went h house)

-- one way after the other
pub went_then : {T : Type 0} (trade : T → TradeView) (P Q R : State → State → Type 0) (a b c : BenchView T)
    → ((s t u : State) → P s t → Q t u → R s u) → Refines trade P a b → Refines trade Q b c → Refines trade R a c
went_then trade P Q R a b c so first second h house =
    let came = first h house in
    came_so trade (Q (state_of came.history b)) (R (state_of h a)) c
    (λ u. so (state_of h a) (state_of came.history b) u came.related) (second came.history came.house)

-- the house stayed
pub went_nowhere : {T : Type 0} (trade : T → TradeView) (R : State → State → Type 0) (b : BenchView T)
    → ((s : State) → R s s) → Refines trade R b b
went_nowhere trade R b so h house = record { history = h; house = house; related = so (state_of h b) }

-- ---- by steps

-- where steps have one property, they have another
pub stepped_so : {T : Type 0} (trade : T → TradeView) (P Q : List (Did State) → State → Type 0) (a b : BenchView T)
    → ((ds : List (Did State)) (s : State) → P ds s → Q ds s) → Refines trade (BySteps P) a b → Refines trade (BySteps Q) a b
stepped_so trade P Q a b so went = went_so trade (BySteps P) (BySteps Q) a b (λ (s t : State). by_steps_so P Q s t (λ (ds : List (Did State)). so ds s)) went

-- steps and others after them
pub stepped_then : {T : Type 0} (trade : T → TradeView) (P Q R : List (Did State) → State → Type 0) (a b c : BenchView T)
    → ((ds es : List (Did State)) (s : State) → P ds s → Q es (state_after s ds) → R (ds ++ es) s)
    → Refines trade (BySteps P) a b → Refines trade (BySteps Q) b c → Refines trade (BySteps R) a c
stepped_then trade P Q R a b c so first second =
    went_then trade (BySteps P) (BySteps Q) (BySteps R) a b c (λ (s t u : State). by_steps_then P Q R s t u (λ (ds es : List (Did State)). so ds es s)) first second

-- no step was done
pub stepped_nowhere : {T : Type 0} (trade : T → TradeView) (P : List (Did State) → State → Type 0) (b : BenchView T)
    → ((s : State) → P [] s) → Refines trade (BySteps P) b b
stepped_nowhere trade P b so = went_nowhere trade (BySteps P) b (λ (s : State). ([], refl, so s))
