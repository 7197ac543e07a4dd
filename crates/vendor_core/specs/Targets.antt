-- What contracts see of the targets of goods that are on sale.
use Rattle.std.specs.Prelude.{ℕ, List, Option}

-- the targets, in the order in which each was put on sale first, and the one for which there is room
pub record TargetsView : Type 0 where
  pub listed : List (List ℕ)
  pub next : Option (List ℕ)
