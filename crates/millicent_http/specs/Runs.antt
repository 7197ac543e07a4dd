-- A run over links with these bytes.
use Rattle.std.specs.Prelude.{◌≡◌, ℕ, List, [], ◌∷◌, ◌++◌}
use Rattle.millicent_http.specs.Items.{Item, Heads}
use Rattle.millicent_http.specs.Steps.{StepRelation, Did, Run}

-- the items of links with these bytes, one link after another
abbrev pub AreItemsOf : List (List ℕ) → List Item → Type 0
AreItemsOf [] items = items ≡ []
AreItemsOf (link ∷ links) items = (front : List Item) × (rest : List Item) × (items ≡ front ++ rest) × Heads link front × AreItemsOf links rest

-- These steps are the run over links with these bytes: they answer every item of each link, in order, at one
-- reading of the clock for each.
pub record IsRunOver {S : Type 0} (Step : StepRelation S) (links : List (List ℕ)) (readings : List ℕ) (s : S) (steps : List (Did S)) : Type 0 where
  pub items : List Item
  pub heads : AreItemsOf links items
  pub ran : Run Step s items readings steps
