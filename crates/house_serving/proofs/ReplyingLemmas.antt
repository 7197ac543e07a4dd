-- Replying to a whole link, item by item.
use Rattle.std.proofs.Common.{◌≡◌, ◌⊎◌, inl, inr, ℕ, ◌+◌, ◌≤◌, ◌<◌, true, false, List, [], ◌∷◌, ◌++◌, length, All, refl, sym, ap, ◌∙◌, arith, length-append, subst}
use Rattle.std.proofs.lemmas.List.Elements.{All-nil, All-push}
use Rattle.mc_requests.specs.declared.limits.Limits.{Limits}
use Rattle.millicent_http.specs.Items.{Item, closes, NextItem, EndsNoItem}
use Rattle.millicent_http.specs.Reads.{HaveRead, NoneCloses}
use Rattle.millicent_http.proofs.ReadLemmas.{read_item, read_all, read_closed}
use Rattle.millicent_http.specs.Steps.{Did, sent_of, state_after, BySteps, Run, IsSession}
use Rattle.millicent_http.proofs.StepLemmas.{run_more, sent_one}
use Rattle.millicent_http.proofs.CourseLemmas.{none_more}
use Rattle.house_core.specs.BenchView.{BenchView}
use Rattle.house_core.specs.Bench.{Refines}
use Rattle.house_core.specs.Session.{State, Step}
use Rattle.house_serving.proofs.RefinesLemmas.{went_so, stepped_so, stepped_then, stepped_nowhere}
use Rattle.house_state.specs.Trade.{TradeView}

-- so far these steps wrote this, in reply to i items, none of which ends the link, and this is left of it
pub record IsReplying (limits : Limits) (moment : ℕ) (link : List ℕ) (i : ℕ) (rest written : List ℕ) (steps : List (Did State)) (s : State) : Type 0 where
  pub items : List Item
  pub read : HaveRead link items rest
  pub opens : NoneCloses items
  pub len : length items ≡ i
  pub readings : List ℕ
  pub same : All (λ reading. reading ≡ moment) readings
  pub ran : Run (Step limits) s items readings steps
  pub wrote : written ≡ sent_of steps

-- an item was replied to
abbrev pub Stepped : Limits → ℕ → Item → List ℕ → List ℕ → State → State → Type 0
Stepped limits moment item written more s t = (reply : List ℕ) × Step limits s moment item reply t × (more ≡ written ++ reply)

-- as a step
abbrev pub IsStep : Limits → ℕ → Item → List ℕ → List ℕ → List (Did State) → State → Type 0
IsStep limits moment item written more steps s = (step : Did State) × (steps ≡ step ∷ []) × Step limits s moment item step.sent step.after × (more ≡ written ++ step.sent)

-- the replies to a link were written by these steps
abbrev pub Wrote : Limits → ℕ → List ℕ → List ℕ → List (Did State) → State → Type 0
Wrote limits moment link written steps s = (written ≡ sent_of steps) × IsSession (Step limits) moment link s steps

as_step : (limits : Limits) (moment : ℕ) (item : Item) (written more : List ℕ) (s t : State) → Stepped limits moment item written more s t → BySteps (IsStep limits moment item written more) s t
as_step limits moment item written more s t is =
    let step : Did State = record { sent = is.0; after = t } in
    (step ∷ [], refl, (step, refl, is.1, is.2))

starts : (limits : Limits) (moment : ℕ) (link : List ℕ) (s : State) (written : List ℕ) → written ≡ [] → IsReplying limits moment link 0 link written [] s
starts limits moment link s written empty = record { items = []; read = refl; opens = tt; len = refl; readings = []; same = All-nil (λ (reading : ℕ). reading ≡ moment); ran = tt; wrote = empty }

ran_more : (limits : Limits) (moment : ℕ) (link : List ℕ) (i : ℕ) (rest written more : List ℕ) (item : Item) (ds es : List (Did State)) (s : State) (so : IsReplying limits moment link i rest written ds s)
    → IsStep limits moment item written more es (state_after s ds) → Run (Step limits) s (so.items ++ item ∷ []) (so.readings ++ moment ∷ []) (ds ++ es)
ran_more limits moment link i rest written more item ds es s so did =
    run_more (Step limits) s so.items (item ∷ []) so.readings (moment ∷ []) ds es so.ran
    (subst (λ (l : List (Did State)). Run (Step limits) (state_after s ds) (item ∷ []) (moment ∷ []) l) (sym did.1) (did.2, tt))

wrote_more : (limits : Limits) (moment : ℕ) (item : Item) (written more : List ℕ) (ds es : List (Did State)) (t : State) → written ≡ sent_of ds → IsStep limits moment item written more es t → more ≡ sent_of (ds ++ es)
wrote_more limits moment item written more ds es t so did = did.3 ∙ ap (λ (l : List ℕ). l ++ did.0.sent) so ∙ sym (sent_one ds es did.0 did.1)

same_more : (moment : ℕ) (readings : List ℕ) → All (λ reading. reading ≡ moment) readings → All (λ reading. reading ≡ moment) (readings ++ moment ∷ [])
same_more moment readings same = All-push (λ (reading : ℕ). reading ≡ moment) readings moment same refl

-- one more item, which leaves the link open
goes_on : (limits : Limits) (moment : ℕ) (link : List ℕ) (i : ℕ) (rest tail written more : List ℕ) (item : Item) (ds es : List (Did State)) (s : State) → NextItem rest item tail → closes item ≡ false
    → IsReplying limits moment link i rest written ds s → IsStep limits moment item written more es (state_after s ds) → IsReplying limits moment link (i + 1) tail more (ds ++ es) s
goes_on limits moment link i rest tail written more item ds es s next open' so did = record {
  items = so.items ++ item ∷ [];
  read = read_item link rest tail so.items item so.read next;
  opens = none_more so.items item so.opens open';
  len = length-append so.items (item ∷ []) ∙ ap (λ (n : ℕ). n + 1) so.len;
  readings = so.readings ++ moment ∷ [];
  same = same_more moment so.readings so.same;
  ran = ran_more limits moment link i rest written more item ds es s so did;
  wrote = wrote_more limits moment item written more ds es (state_after s ds) so.wrote did;
}

-- an item that ends the link
closed : (limits : Limits) (moment : ℕ) (link : List ℕ) (i : ℕ) (rest tail written more : List ℕ) (item : Item) (ds es : List (Did State)) (s : State) → i < 1000 → NextItem rest item tail → closes item ≡ true
    → IsReplying limits moment link i rest written ds s → IsStep limits moment item written more es (state_after s ds) → Wrote limits moment link more (ds ++ es) s
closed limits moment link i rest tail written more item ds es s few next close so did = (
  wrote_more limits moment item written more ds es (state_after s ds) so.wrote did,
  record {
    items = so.items ++ item ∷ [];
    heads = read_closed 1000 link tail so.items item (read_item link rest tail so.items item so.read next) so.opens close (omega (arith, so.len, few));
    readings = so.readings ++ moment ∷ [];
    same = same_more moment so.readings so.same;
    ran = ran_more limits moment link i rest written more item ds es s so did;
  },
)

ended : (limits : Limits) (moment : ℕ) (link : List ℕ) (i : ℕ) (rest written : List ℕ) (steps : List (Did State)) (s : State) → i ≤ 1000 → (i ≡ 1000) ⊎ EndsNoItem rest
    → IsReplying limits moment link i rest written steps s → Wrote limits moment link written steps s
ended limits moment link i rest written steps s few ends so = (
  so.wrote,
  record {
    items = so.items;
    heads = read_all 1000 link rest so.items so.read so.opens (omega (arith, so.len, few)) (at_end ends);
    readings = so.readings;
    same = so.same;
    ran = so.ran;
  },
)
  where
    at_end : (i ≡ 1000) ⊎ EndsNoItem rest → (length so.items ≡ 1000) ⊎ EndsNoItem rest
    at_end (inl full) = inl (so.len ∙ full)
    at_end (inr none) = inr none

-- ---- from one house to another

abbrev pub Replying : {T : Type 0} → (T → TradeView) → Limits → ℕ → List ℕ → ℕ → BenchView T → List ℕ → List ℕ → BenchView T → Type 0
Replying trade limits moment link i a rest written b = Refines trade (BySteps (IsReplying limits moment link i rest written)) a b

went_step : {T : Type 0} (trade : T → TradeView) (limits now_limits : Limits) (moment : ℕ) (b c : BenchView T) (written more : List ℕ) (item : Item) → now_limits ≡ limits
    → Refines trade (λ s t. Stepped now_limits moment item written more s t) b c → Refines trade (BySteps (IsStep limits moment item written more)) b c
went_step trade limits now_limits moment b c written more item same stepped =
    went_so trade (λ (s t : State). Stepped limits moment item written more s t) (BySteps (IsStep limits moment item written more)) b c (as_step limits moment item written more)
    (subst (λ (l : Limits). Refines trade (λ s t. Stepped l moment item written more s t) b c) same stepped)

pub replying_starts : {T : Type 0} (trade : T → TradeView) (limits : Limits) (moment : ℕ) (link : List ℕ) (b : BenchView T) (written : List ℕ) → written ≡ []
    → Replying trade limits moment link 0 b link written b
replying_starts trade limits moment link b written empty =
    stepped_nowhere trade (IsReplying limits moment link 0 link written) b (λ (s : State). starts limits moment link s written empty)

pub replying_goes_on : {T : Type 0} (trade : T → TradeView) (limits now_limits : Limits) (moment : ℕ) (link : List ℕ) (i : ℕ) (a b c : BenchView T) (rest tail written more : List ℕ) (item : Item)
    → now_limits ≡ limits → NextItem rest item tail → closes item ≡ false → Replying trade limits moment link i a rest written b
    → Refines trade (λ s t. Stepped now_limits moment item written more s t) b c → Replying trade limits moment link (i + 1) a tail more c
replying_goes_on trade limits now_limits moment link i a b c rest tail written more item same next open' so stepped =
    stepped_then trade (IsReplying limits moment link i rest written) (IsStep limits moment item written more) (IsReplying limits moment link (i + 1) tail more) a b c
    (λ (ds es : List (Did State)) (s : State). goes_on limits moment link i rest tail written more item ds es s next open') so (went_step trade limits now_limits moment b c written more item same stepped)

pub replying_closes : {T : Type 0} (trade : T → TradeView) (limits now_limits : Limits) (moment : ℕ) (link : List ℕ) (i : ℕ) (a b c : BenchView T) (rest tail written more : List ℕ) (item : Item)
    → now_limits ≡ limits → i < 1000 → NextItem rest item tail → closes item ≡ true → Replying trade limits moment link i a rest written b
    → Refines trade (λ s t. Stepped now_limits moment item written more s t) b c → Refines trade (BySteps (Wrote limits moment link more)) a c
replying_closes trade limits now_limits moment link i a b c rest tail written more item same few next close so stepped =
    stepped_then trade (IsReplying limits moment link i rest written) (IsStep limits moment item written more) (Wrote limits moment link more) a b c
    (λ (ds es : List (Did State)) (s : State). closed limits moment link i rest tail written more item ds es s few next close) so (went_step trade limits now_limits moment b c written more item same stepped)

pub replying_ends : {T : Type 0} (trade : T → TradeView) (limits : Limits) (moment : ℕ) (link : List ℕ) (i : ℕ) (a b : BenchView T) (rest written : List ℕ)
    → i ≤ 1000 → (i ≡ 1000) ⊎ EndsNoItem rest → Replying trade limits moment link i a rest written b → Refines trade (BySteps (Wrote limits moment link written)) a b
replying_ends trade limits moment link i a b rest written few ends so =
    stepped_so trade (IsReplying limits moment link i rest written) (Wrote limits moment link written) a b
    (λ (steps : List (Did State)) (s : State). ended limits moment link i rest written steps s few ends) so
