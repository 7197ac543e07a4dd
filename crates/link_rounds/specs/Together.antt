-- Several links at once: the steps of all slots in one order, and those of each.
use Rattle.std.specs.Prelude.{true, ◌≡◌, ◌⊎◌, ℕ, zero, suc, ◌+◌, ◌<◌, ◌≤◌, ◌==◌, if◌then◌else◌, List, [], ◌∷◌, length, take}
use Rattle.mc_outside.specs.LinkView.{LinkView, none_left}
use Rattle.millicent_http.specs.Items.{Item}
use Rattle.millicent_http.specs.declared.clock.Clock.{Clock}
use Rattle.millicent_http.specs.Steps.{StepRelation, Did, state_after}
use Rattle.millicent_http.specs.Courses.{HadLinks}

-- a step, and the slot whose item it answered
pub record Tagged (S : Type 0) : Type 0 where
  pub slot : ℕ
  pub did : Did S

-- the steps of all slots, in their order
abbrev pub did_of : {S : Type 0} → List (Tagged S) → List (Did S)
did_of [] = []
did_of (x ∷ xs) = x.did ∷ did_of xs

-- the state at a place of the order: after so many of the steps
abbrev pub state_at : {S : Type 0} → S → List (Tagged S) → ℕ → S
state_at s all n = state_after s (did_of (take n all))

-- The steps of one slot, each with the place behind it; the first of these steps has this place.
abbrev pub at_slot : {S : Type 0} → ℕ → ℕ → List (Tagged S) → List (Did ℕ)
at_slot p n [] = []
at_slot p n (x ∷ xs) = if x.slot == p then record { sent = x.did.sent; after = suc n } ∷ at_slot p (suc n) xs else at_slot p (suc n) xs

-- A step relation over places: from a place an item is answered at a later one, by the step that stands there, from the
-- state there to the state behind it. Between the two places other slots' items may be answered.
pub record StepAt {S : Type 0} (Step : StepRelation S) (s : S) (all : List (Tagged S)) (n reading : ℕ) (item : Item) (reply : List ℕ) (m : ℕ) : Type 0 where
  pub place : ℕ
  pub later : n ≤ place
  pub next : m ≡ suc place
  pub within : place < length all
  pub step : Step (state_at s all place) reading item reply (state_at s all (suc place))

-- So many links were served in a slot, one after another, by its steps in the order of all; and no more came perhaps.
abbrev pub ServedSlot : {S : Type 0} → StepRelation S → Clock → S → List (Tagged S) → ℕ → ℕ → LinkView → LinkView → Type 0
ServedSlot Step clock s all p n before after =
    HadLinks (StepAt Step s all) clock n (at_slot p 0 all) 0 before after
    ⊎ ((between : LinkView) × HadLinks (StepAt Step s all) clock n (at_slot p 0 all) 0 before between × (after ≡ none_left between))

-- how many links were served in the first slots
abbrev pub links_in : (ℕ → ℕ) → ℕ → ℕ
links_in each zero = 0
links_in each (suc p) = links_in each p + each p

-- Links were served side by side, so many in all: there is one order of the steps of all slots by which each slot was served.
pub record ServedTogether {S : Type 0} (Step : StepRelation S) (clock : Clock) (count n : ℕ) (s : S) (all : List (Tagged S)) (before after : ℕ → LinkView) : Type 0 where
  pub each : ℕ → ℕ
  pub total : n ≡ links_in each count
  pub slot' : (p : ℕ) → p < count → ServedSlot Step clock s all p (each p) (before p) (after p)

-- all steps are this slot's
abbrev pub AllOf : {S : Type 0} → ℕ → List (Tagged S) → Type 0
AllOf p [] = Unit {0}
AllOf p (x ∷ xs) = ((x.slot == p) ≡ true) × AllOf p xs
