-- How serving links by a house in memory ended.
use Rattle.std.specs.Prelude.{◌≡◌, ℕ, List, [], Result, Ok, Err}
use Rattle.mc_outside.specs.LinkView.{LinkView}
use Rattle.millicent_http.specs.declared.clock.Clock.{Clock}
use Rattle.millicent_http.specs.Steps.{StepRelation, Did}
use Rattle.millicent_http.specs.Courses.{ServedAll, ServedSome}
use Rattle.house_serving.specs.declared.serving.BenchEnd.{BenchEnd}
use Rattle.house_serving.specs.declared.serving.BenchEnd.TheVariants as ends

-- Memory is refused before the first link alone.
abbrev pub Served : {S : Type 0} → StepRelation S → Clock → ℕ → Result ℕ BenchEnd → List (Did S) → S → LinkView → LinkView → Type 0
Served Step clock links (Ok n) steps s before after = ServedAll Step clock links n steps s before after
Served Step clock links (Err ends.NoMemory) steps s before after = (steps ≡ []) × (after ≡ before)
Served Step clock links (Err ends.Link) steps s before after = ServedSome Step clock links steps s before after
