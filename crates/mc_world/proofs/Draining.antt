-- Loops that take a list apart, element by element.
use Rattle.std.proofs.Common.{◌≡◌, List, [], ◌∷◌, ◌++◌, sym, ap, ◌∙◌, append_assoc}

-- one more was taken
pub taken_more : {X : Type 0} (ys rest next all : List X) (x : X) → ys ++ rest ≡ all → rest ≡ x ∷ next → (ys ++ x ∷ []) ++ next ≡ all
taken_more {X} ys rest next all x is steps = append_assoc ys (x ∷ []) next ∙ ap (λ (l : List X). ys ++ l) (sym steps) ∙ is
