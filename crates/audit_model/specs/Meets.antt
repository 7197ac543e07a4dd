-- Pieces among others, by identity and value.
use Rattle.std.specs.Prelude.{Bool, ◌&&◌, ◌==◌, IsTrue, List}
use Rattle.std.specs.List.{list_any, AllByRecursion}
use Rattle.scrip_form.specs.Scrip.{Scrip}

-- whether a piece stands among others, with its identity and its value
abbrev pub is_among : List Scrip → Scrip → Bool
is_among pieces p = list_any (λ q. (q.id == p.id) && (q.value == p.value)) pieces

-- each of some pieces stands among others
abbrev pub AreAmong : List Scrip → List Scrip → Type 0
AreAmong pieces some = AllByRecursion (λ p. IsTrue (is_among pieces p)) some
