-- Turns one after another, from house to house.
use Rattle.std.proofs.Common.{◌≡◌, ◌+◌, ◌<◌, List, subst}
use Rattle.std.specs.Prelude.{IsTrue}
use Rattle.mc_outside.specs.LinkView.{LinkView}
use Rattle.mc_requests.specs.declared.limits.Limits.{Limits}
use Rattle.millicent_http.specs.Held.{Held, nothing_held}
use Rattle.ledger_model.specs.Histories.{History}
use Rattle.millicent_http.specs.declared.clock.Clock.{Clock}
use Rattle.millicent_http.specs.Steps.{Did, state_after}
use Rattle.house_core.specs.BenchView.{BenchView}
use Rattle.link_turns.specs.declared.turn.Turn.{Turn}
use Rattle.link_turns.specs.declared.turn.Turn.TheVariants.{GoOn}
use Rattle.house_core.specs.Bench.{IsHouse}
use Rattle.house_serving.specs.Counting.{Counts, told_state}
use Rattle.house_core.specs.Tallies.{Repeated, ToldState, ToldStep}
use Rattle.link_turns.specs.Turns.{Answered, Turned, Ended}
use Rattle.house_serving.proofs.CountsLemmas.{counts_then, counts_nowhere}
use Rattle.link_turns.proofs.ServingLemmas.{IsServing, serving_starts, serving_stands, serving_goes_on, serving_ended, given_grows}
use Rattle.house_state.specs.Trade.{TradeView}

-- from one house to another, so far these items were answered
abbrev pub Serving : {T : Type 0} → (T → TradeView) → Limits → Clock → BenchView T → LinkView → BenchView T → Held → LinkView → Type 0
Serving trade limits clock a before b h now = Counts trade (λ steps s. IsServing (ToldStep limits) clock steps s before h now) a b

-- from one house to another a turn was taken
abbrev pub TookTurn : {T : Type 0} → (T → TradeView) → Limits → Clock → Turn → BenchView T → Held → LinkView → BenchView T → Held → LinkView → Type 0
TookTurn trade limits clock turn a old before b new link = Counts trade (λ steps s. Turned (ToldStep limits) clock turn steps s old before new link) a b

pub turns_start : {T : Type 0} (trade : T → TradeView) (limits : Limits) (clock : Clock) (b : BenchView T) (h : Held) (v : LinkView) → h ≡ nothing_held
    → Serving trade limits clock b v b h v
turns_start trade limits clock b h v empty =
    counts_nowhere trade (λ (steps : List (Did ToldState)) (s : ToldState). IsServing (ToldStep limits) clock steps s v h v) b (λ (s : ToldState). serving_starts (ToldStep limits) clock s h v empty)

pub turns_go_on : {T : Type 0} (trade : T → TradeView) (limits now_limits : Limits) (clock : Clock) (a b c : BenchView T) (before : LinkView) (h k : Held) (now next : LinkView)
    → now_limits ≡ limits → Serving trade limits clock a before b h now → TookTurn trade now_limits clock GoOn b h now c k next → Serving trade limits clock a before c k next
turns_go_on trade limits now_limits clock a b c before h k now next same so turned =
    counts_then trade (λ (ds : List (Did ToldState)) (s : ToldState). IsServing (ToldStep limits) clock ds s before h now) (λ (es : List (Did ToldState)) (t : ToldState). Answered (ToldStep limits) clock GoOn es t h now k next)
    (λ (l : List (Did ToldState)) (s : ToldState). IsServing (ToldStep limits) clock l s before k next) a b c
    (λ (ds es : List (Did ToldState)) (s : ToldState) (x : IsServing (ToldStep limits) clock ds s before h now) (y : Answered (ToldStep limits) clock GoOn es (state_after s ds) h now k next).
    serving_goes_on (ToldStep limits) clock ds es s before h k now next x y) so (subst (λ (l : Limits). TookTurn trade l clock GoOn b h now c k next) same turned)

pub turns_end : {T : Type 0} (trade : T → TradeView) (limits now_limits : Limits) (clock : Clock) (turn : Turn) (a b c : BenchView T) (before : LinkView) (h k : Held) (now next : LinkView)
    → now_limits ≡ limits → (turn ≡ GoOn → ⊥) → Serving trade limits clock a before b h now → TookTurn trade now_limits clock turn b h now c k next
    → Counts trade (λ steps s. Ended (ToldStep limits) clock turn steps s before next) a c
turns_end trade limits now_limits clock turn a b c before h k now next same not so turned =
    counts_then trade (λ (ds : List (Did ToldState)) (s : ToldState). IsServing (ToldStep limits) clock ds s before h now) (λ (es : List (Did ToldState)) (t : ToldState). Turned (ToldStep limits) clock turn es t h now k next)
    (λ (l : List (Did ToldState)) (s : ToldState). Ended (ToldStep limits) clock turn l s before next) a b c
    (λ (ds es : List (Did ToldState)) (s : ToldState) (x : IsServing (ToldStep limits) clock ds s before h now) (y : Turned (ToldStep limits) clock turn es (state_after s ds) h now k next).
    serving_ended (ToldStep limits) clock turn ds es s before h k now next not x y) so (subst (λ (l : Limits). TookTurn trade l clock turn b h now c k next) same turned)

-- the link still stands
pub turns_stand : {T : Type 0} (trade : T → TradeView) (limits : Limits) (clock : Clock) (a b : BenchView T) (before : LinkView) (h : Held) (now : LinkView)
    → (f : History) → IsHouse trade a f → Serving trade limits clock a before b h now → IsTrue before.stands → IsTrue now.stands
turns_stand trade limits clock a b before h now f house so standing =
    let came = so f Repeated house in
    serving_stands (ToldStep limits) clock came.steps (told_state Repeated f a) before h now came.did standing

-- and the number of items given grew, which is below 1,000
pub turns_grow : {T : Type 0} (trade : T → TradeView) (limits now_limits : Limits) (clock : Clock) (a b c : BenchView T) (before : LinkView) (h k : Held) (now next : LinkView)
    → (f : History) → IsHouse trade a f → Serving trade limits clock a before b h now → TookTurn trade now_limits clock GoOn b h now c k next
    → (k.given ≡ h.given + 1) × (h.given < 1000)
turns_grow trade limits now_limits clock a b c before h k now next f house so turned =
    let came = so f Repeated house in
    let by = turned came.history Repeated came.house in
    let grows = given_grows (ToldStep now_limits) clock by.steps (told_state Repeated came.history b) h k now next by.did in
    (grows.0, grows.1)
