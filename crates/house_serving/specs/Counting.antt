-- A house in memory whose tally is counted on by the steps of what it serves.
use Rattle.std.specs.Prelude.{◌≡◌, List, [], ◌∷◌}
use Rattle.millicent_http.specs.Steps.{Did, state_after}
use Rattle.ledger_model.specs.Histories.{History}
use Rattle.house_core.specs.BenchView.{BenchView}
use Rattle.house_state.specs.Trade.{TradeView}
use Rattle.house_core.specs.Tallies.{Told, ToldState, tallied, told_by}
use Rattle.house_core.specs.Bench.{IsHouse, IsTallied, tally_of, state_of}

-- the state of a house, after this was told
abbrev pub told_state : {T : Type 0} → Told → History → BenchView T → ToldState
told_state told h b = record { state = state_of h b; told_last = told }

-- Steps with this property led from a state of the one house to one that the other represents, and the tally
-- was counted on by what they told.
pub record Counted {T : Type 0} (trade : T → TradeView) (P : List (Did ToldState) → Type 0) (s : ToldState) (a b : BenchView T) : Type 0 where
  pub steps : List (Did ToldState)
  pub did : P steps
  pub history : History
  pub house : IsHouse trade b history
  pub state : (state_after s steps).state ≡ state_of history b
  pub tally : IsTallied a → tally_of b ≡ tallied (tally_of a) (told_by steps)
  pub within : IsTallied a → IsTallied b

-- from each history that the house represented, whatever was told last
abbrev pub Counts : {T : Type 0} → (T → TradeView) → (List (Did ToldState) → ToldState → Type 0) → BenchView T → BenchView T → Type 0
Counts trade P a b = (h : History) (told : Told) → IsHouse trade a h → Counted trade (λ steps. P steps (told_state told h a)) (told_state told h a) a b

-- one step was done, of this kind
abbrev pub IsOne : (Did ToldState → ToldState → Type 0) → List (Did ToldState) → ToldState → Type 0
IsOne P steps s = (step : Did ToldState) × (steps ≡ step ∷ []) × P step s
