-- What becomes of the links of `vendor once`.
use Rattle.std.specs.Prelude.{◌≡◌, ℕ, List, Result, Ok, Err}
use Rattle.mc_outside.specs.LinkView.{LinkView}
use Rattle.millicent_http.specs.declared.clock.Clock.TheVariants.{At}
use Rattle.millicent_http.specs.Steps.{Did}
use Rattle.millicent_http.specs.Courses.{ServedAll, NoLink}
use Rattle.house_core.specs.Session.{Step, State}
use Rattle.house_serving.specs.declared.serving.BenchEnd.{BenchEnd}
use Rattle.house_serving.specs.declared.serving.BenchEnd.TheVariants as ends
use Rattle.site_words.specs.Words.{Shop}
use Rattle.vendor_commands.specs.Opening.{opened}
use Rattle.operator_command.specs.Operations.{full}

-- One link was served, or none came: from the opening of the shop on, each reading of the clock is 0.
abbrev pub IsDone : Shop → LinkView → LinkView → Type 0
IsDone shop before after = (n : ℕ) × (steps : List (Did State)) × ServedAll (Step full) (At 0) 1 n steps (opened shop) before after

-- how `vendor once` served its link, or why it took none
abbrev pub EndsOnce : Result (Unit {0}) BenchEnd → Shop → LinkView → LinkView → Type 0
EndsOnce (Ok u) shop before after = IsDone shop before after
EndsOnce (Err ends.NoMemory) shop before after = after ≡ before
EndsOnce (Err ends.Link) shop before after = NoLink before after
