-- How lists that are put one behind another are one list.
use Rattle.std.proofs.Common.{◌≡◌, ℕ, List, ◌++◌, ◌∙◌, ap}

-- behind what is known to stand there
pub after : (a b c t : List ℕ) → a ≡ b ++ t → b ≡ c → a ≡ c ++ t
after a b c t e f = e ∙ ap (λ (z : List ℕ). z ++ t) f
