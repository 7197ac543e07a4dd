-- The windows of a house, and the identities that it accepted.
use Rattle.std.specs.Prelude.{◌≡◌, ℕ, not, true, List, filter, map, Some}
use Rattle.spent_windows.specs.Windows.{WindowView, window_of, is_marked, end_of}
use Rattle.ledger_model.specs.Histories.{History}
use Rattle.ledger_model.specs.Pieces.{accepted}
use Rattle.house_state.specs.Representation.{has_ended}

-- there is a marked identity of a window
abbrev pub HasMarked : List WindowView → ℕ → Type 0
HasMarked ws number = (id : ℕ) × (window_of id ≡ number) × (is_marked ws id ≡ true)

-- there is one of each window that stands
abbrev pub AreUsed : List WindowView → Type 0
AreUsed ws = (id end : ℕ) → end_of ws id ≡ Some end → HasMarked ws (window_of id)

-- there is one of each window that stands but this, for which room was made
abbrev pub AreUsedBut : ℕ → List WindowView → Type 0
AreUsedBut number ws = (id end : ℕ) → end_of ws id ≡ Some end → (window_of id ≡ number → ⊥) → HasMarked ws (window_of id)

-- the windows of the accepted identities whose series has not ended at a time, one for each identity
abbrev pub live_windows : History → ℕ → List ℕ
live_windows h t = map (λ p. window_of p.id) (filter (λ p. not (has_ended h t p.id)) (accepted h))
