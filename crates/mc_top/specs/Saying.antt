-- Saying a line.
use Rattle.std.specs.Prelude.{◌≡◌, ℕ, List, [], ◌∷◌, ◌++◌, Bool, true, false, option_map}
use Rattle.mc_outside.specs.Bytes.{Rose, Told, AddsPart}
use Rattle.mc_outside.specs.LinkView.{LinkView}

-- a line was said, or saying it failed
pub record SaidInPart (line : List ℕ) (before after : LinkView) : Type 0 where
  pub same : after ≡ record before { faults = after.faults; said = after.said }
  pub rose : Rose before.faults after.faults
  pub part : Told (AddsPart line) before.said after.said

-- a line was said whole, exactly where the test says so; else saying it failed, which it can't where it has no bytes
abbrev pub Says : List ℕ → Bool → LinkView → LinkView → Type 0
Says line true before after = after ≡ record before { said = option_map (λ s. s ++ line) before.said }
Says [] false before after = ⊥
Says (x ∷ line) false before after = SaidInPart (x ∷ line) before after

abbrev pub IsSaid : List ℕ → LinkView → LinkView → Type 0
IsSaid line before after = (whole : Bool) × Says line whole before after
