-- A text that is cut where a byte stands.
use Rattle.std.specs.Prelude.{ℕ, ◌==◌, if◌then◌else◌, List, [], ◌∷◌, Option, Some, None, option_map}

-- what stands before the first such byte, and what behind it
unfoldable pub cut : ℕ → List ℕ → Option (List ℕ × List ℕ)
cut stop [] = None
cut stop (c ∷ cs) = if c == stop then Some ([], cs) else option_map (λ x. (c ∷ x.0, x.1)) (cut stop cs)

-- what is read of both parts
abbrev pub then_cut : {A : Type 0} → Option (List ℕ × List ℕ) → (List ℕ → List ℕ → Option A) → Option A
then_cut None next = None
then_cut (Some x) next = next x.0 x.1
