-- What is done item by item: the steps of a run, over any states and any step relation.
use Rattle.std.specs.Prelude.{◌≡◌, ℕ, List, [], ◌∷◌, ◌++◌, All}
use Rattle.millicent_http.specs.Items.{Item, Heads}

-- A step relation: from a state an item, at a reading of the clock, is replied to with these bytes, and
-- leads to a state.
abbrev pub StepRelation : Type 0 → Type 1
StepRelation S = S → ℕ → Item → List ℕ → S → Type 0

-- one step: the bytes that were sent of its reply, and the state after it
pub record Did (S : Type 0) : Type 0 where
  pub sent : List ℕ
  pub after : S

-- the bytes that some steps sent, joined
abbrev pub sent_of : {S : Type 0} → List (Did S) → List ℕ
sent_of [] = []
sent_of (d ∷ ds) = d.sent ++ sent_of ds

-- the state after some steps
abbrev pub state_after : {S : Type 0} → S → List (Did S) → S
state_after s [] = s
state_after s (d ∷ ds) = state_after d.after ds

-- some steps with this property lead from the one state to the other
abbrev pub BySteps : {S : Type 0} → (List (Did S) → S → Type 0) → S → S → Type 0
BySteps {S} P s t = (steps : List (Did S)) × (t ≡ state_after s steps) × P steps s

-- The steps of some items, at one reading of the clock for each. Each sends its reply whole.
abbrev pub Run : {S : Type 0} → StepRelation S → S → List Item → List ℕ → List (Did S) → Type 0
Run Step s [] [] [] = Unit {0}
Run Step s (item ∷ items) (reading ∷ readings) (d ∷ ds) = Step s reading item d.sent d.after × Run Step d.after items readings ds
Run Step s _ _ _ = ⊥

-- The replies to the items of a link with these bytes, where the clock stands at a moment, are what these
-- steps send.
pub record IsSession {S : Type 0} (Step : StepRelation S) (moment : ℕ) (link : List ℕ) (s : S) (steps : List (Did S)) : Type 0 where
  pub items : List Item
  pub heads : Heads link items
  pub readings : List ℕ
  pub same : All (λ reading. reading ≡ moment) readings
  pub ran : Run Step s items readings steps
