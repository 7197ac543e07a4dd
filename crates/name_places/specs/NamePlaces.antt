-- Names with a place each, without how they are found.
use Rattle.std.specs.Prelude.{ℕ, List, Option, bytes_eq}
use Rattle.std.specs.Map.{lookup}

-- the names with their places, in no order, and the name for which there is room
pub record NamePlacesView : Type 0 where
  pub places : List (List ℕ × ℕ)
  pub room : Option (List ℕ)

-- the place of a name
abbrev pub place_of : NamePlacesView → List ℕ → Option ℕ
place_of p name = lookup (bytes_eq name) p.places
