-- One turn of serving a link.
use Rattle.std.proofs.Common.{◌≡◌, inr, ℕ, ◌+◌, ◌<◌, Bool, List, [], ◌∷◌, refl, sym, subst, arith, Result, Ok, Err}
use Rattle.std.specs.Prelude.{IfOk}
use Rattle.mc_outside.specs.LinkView.{LinkView, after_recv}
use Rattle.scrip_form.specs.Texts.{IsTarget}
use Rattle.mc_requests.specs.declared.request.Request.{Request}
use Rattle.mc_requests.specs.Requests.{asked_of}
use Rattle.millicent_http.specs.declared.item.After.{After}
use Rattle.millicent_http.specs.declared.item.After.TheVariants as afters
use Rattle.millicent_http.specs.declared.item.HeadRefusal.{HeadRefusal}
use Rattle.millicent_http.specs.declared.item.HeadOut.{HeadOut}
use Rattle.millicent_http.specs.declared.item.HeadOut.TheVariants as outs
use Rattle.millicent_http.specs.Items.{Item, request, refused}
use Rattle.millicent_http.specs.HeadRefusals.{as_refusal}
use Rattle.millicent_http.specs.Held.{Held}
use Rattle.millicent_http.specs.Takes.{Took, TookItem, LeadsTo, with_more}
use Rattle.millicent_http.proofs.JudgeLemmas.{asks_a_target}
use Rattle.millicent_http.specs.declared.clock.Clock.{Clock}
use Rattle.millicent_http.specs.Steps.{Did, StepRelation}
use Rattle.link_turns.specs.declared.turn.Turn.{Turn}
use Rattle.link_turns.specs.declared.turn.Turn.TheVariants.{GoOn, Last, End, NotReceived, NotSent}
use Rattle.link_turns.specs.Turns.{Answered, AnsweredItem, Turned}

turned : {S : Type 0} (Step : StepRelation S) (clock : Clock) (turn : Turn) (steps : List (Did S)) (s : S) (old : Held) (before : LinkView) (new : Held) (link : LinkView)
    → Answered Step clock turn steps s old before new link → Turned Step clock turn steps s old before new link
turned Step clock GoOn steps s old before new link x = x
turned Step clock Last steps s old before new link x = x
turned Step clock End steps s old before new link x = absurd x.answered.sent
turned Step clock NotReceived steps s old before new link x = absurd x.answered.sent
turned Step clock NotSent steps s old before new link x = x

-- an item was taken and answered
pub item_turned : {S : Type 0} (Step : StepRelation S) (clock : Clock) (turn : Turn) (step : Did S) (s : S) (old : Held) (before mid : LinkView) (more : List ℕ) (item : Item) (after : After) (new : Held) (link : LinkView)
    → TookItem (with_more old more).bytes old.given item after new → mid ≡ after_recv more before → AnsweredItem Step clock item after turn step s mid link
    → Turned Step clock turn (step ∷ []) s old before new link
item_turned Step clock turn step s old before mid more item after new link took came answered =
    turned Step clock turn (step ∷ []) s old before new link (record {
      more = more;
      item = item;
      after = after;
      took = took;
      step = step;
      one = refl;
      answered = subst (λ (v : LinkView). AnsweredItem Step clock item after turn step s v link) came answered;
    })

pub leads_so : (old : Held) (before : LinkView) (out made : HeadOut) (new : Held) (mid : LinkView) (took : Took old before out new mid) → out ≡ made → LeadsTo (with_more old took.got) made new (after_recv took.got before) mid
leads_so old before out made new mid took is = subst (λ (o : HeadOut). LeadsTo (with_more old took.got) o new (after_recv took.got before) mid) is took.leads

-- a request was answered
pub head_turned : {S : Type 0} (Step : StepRelation S) (clock : Clock) (turn : Turn) (step : Did S) (steps : List (Did S)) (s : S) (old : Held) (before mid : LinkView) (out : HeadOut) (q : Request) (after : After) (new : Held) (link : LinkView)
    → Took old before out new mid → out ≡ outs.Head q after → steps ≡ step ∷ []
    → ((closes : Bool) → AnsweredItem Step clock (request (asked_of q) closes) after turn step s mid link)
    → Turned Step clock turn steps s old before new link
head_turned {S = S} Step clock turn step steps s old before mid out q after new link took is one did =
    let leads = leads_so old before out (outs.Head q after) new mid took is in
    subst (λ (ds : List (Did S)). Turned Step clock turn ds s old before new link) (sym one)
    (item_turned Step clock turn step s old before mid took.got (request (asked_of q) leads.0.0) after new link leads.0.1 leads.1 (did leads.0.0))

-- a head was refused
pub refused_turned : {S : Type 0} (Step : StepRelation S) (clock : Clock) (turn : Turn) (step : Did S) (steps : List (Did S)) (s : S) (old : Held) (before mid : LinkView) (out : HeadOut) (f : HeadRefusal) (after : After) (new : Held) (link : LinkView)
    → Took old before out new mid → out ≡ outs.Refused f after → steps ≡ step ∷ []
    → ((closes : Bool) → AnsweredItem Step clock (refused (as_refusal f) closes) after turn step s mid link)
    → Turned Step clock turn steps s old before new link
refused_turned {S = S} Step clock turn step steps s old before mid out f after new link took is one did =
    let leads = leads_so old before out (outs.Refused f after) new mid took is in
    subst (λ (ds : List (Did S)). Turned Step clock turn ds s old before new link) (sym one)
    (item_turned Step clock turn step s old before mid took.got (refused (as_refusal f) leads.0.0) after new link leads.0.1 leads.1 (did leads.0.0))

-- the link was at its end
pub end_turned : {S : Type 0} (Step : StepRelation S) (clock : Clock) (s : S) (old : Held) (before : LinkView) (out : HeadOut) (new : Held) (link : LinkView)
    → Took old before out new link → out ≡ outs.End → Turned Step clock End [] s old before new link
end_turned Step clock s old before out new link took is =
    let leads = leads_so old before out outs.End new link took is in
    record { none_done = refl; more = took.got; none = leads.1; then' = leads.2 }

-- a call of it failed
pub fault_turned : {S : Type 0} (Step : StepRelation S) (clock : Clock) (s : S) (old : Held) (before : LinkView) (out : HeadOut) (new : Held) (link : LinkView)
    → Took old before out new link → out ≡ outs.Fault → Turned Step clock NotReceived [] s old before new link
fault_turned Step clock s old before out new link took is =
    let leads = leads_so old before out outs.Fault new link took is in
    record { none_done = refl; more = took.got; none = leads.1; then' = leads.2 }

-- ---- what an item leaves of the reader

item_given : (bytes : List ℕ) (old : Held) (item : Item) (after : After) (new : Held) → TookItem bytes old.given item after new → (after ≡ afters.Close → ⊥) → (new.given ≡ old.given + 1) × (old.given < 1000)
item_given bytes old item after new took open' =
    let last : new.given ≡ 1000 → ⊥ = λ e. open' (took.after_is.1 (inr e)) in
    (omega (arith, took.given_is, last), omega (arith, took.given_is, last))

-- a request asks a target
pub head_target : (old : Held) (before mid : LinkView) (q : Request) (after : After) (new : Held) (out : HeadOut) → Took old before out new mid → out ≡ outs.Head q after → IsTarget q.target.now
head_target old before mid q after new out took is =
    let leads = leads_so old before out (outs.Head q after) new mid took is in
    asks_a_target _ new.bytes (asked_of q) leads.0.0 leads.0.1.next

-- after an item that lets the link go on, another may come
pub head_given : (old : Held) (before mid : LinkView) (q : Request) (after : After) (new : Held) (out : HeadOut) → Took old before out new mid → out ≡ outs.Head q after → (after ≡ afters.Close → ⊥)
    → (new.given ≡ old.given + 1) × (old.given < 1000)
head_given old before mid q after new out took is open' =
    let leads = leads_so old before out (outs.Head q after) new mid took is in
    item_given _ (with_more old took.got) _ after new leads.0.1 open'

pub refused_given : (old : Held) (before mid : LinkView) (f : HeadRefusal) (after : After) (new : Held) (out : HeadOut) → Took old before out new mid → out ≡ outs.Refused f after → (after ≡ afters.Close → ⊥)
    → (new.given ≡ old.given + 1) × (old.given < 1000)
refused_given old before mid f after new out took is open' =
    let leads = leads_so old before out (outs.Refused f after) new mid took is in
    item_given _ (with_more old took.got) _ after new leads.0.1 open'

-- the same, where the turn is part of an answer
pub given_if : {A E : Type 0} (r : Result (A × Turn) E) (Q Closes : Type 0) → IfOk r (λ x. x.1 ≡ GoOn → Closes → ⊥) → ((Closes → ⊥) → Q) → IfOk r (λ x. x.1 ≡ GoOn → Q)
given_if (Ok x) Q Closes open' so = λ goes. so (open' goes)
given_if (Err e) Q Closes open' so = tt
