-- The replies of a shop to a link.
use Rattle.std.specs.Prelude.{◌≡◌, ℕ, List}
use Rattle.millicent_http.specs.Steps.{Did, sent_of}
use Rattle.millicent_http.specs.Steps as runs
use Rattle.house_core.specs.Session.{Step, State}
use Rattle.site_words.specs.Words.{Shop}
use Rattle.vendor_commands.specs.Opening.{opened}
use Rattle.operator_command.specs.Operations.{full}

-- these are the replies to the items of a link with these bytes, from the opening of the shop on, where
-- each reading of the clock is 0
abbrev pub IsSession : Shop → List ℕ → List ℕ → Type 0
IsSession shop link bytes = (steps : List (Did State)) × (bytes ≡ sent_of steps) × runs.IsSession (Step full) 0 link (opened shop) steps
