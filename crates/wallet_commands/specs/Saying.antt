-- What is said of a reply before it settles its request.
use Rattle.std.specs.Prelude.{◌≡◌, ℕ, ◌==◌, ◌&&◌, if◌then◌else◌, List, [], ◌++◌, option_map}
use Rattle.mc_outside.specs.Bytes.{Rose, Told, AddsPart}
use Rattle.mc_outside.specs.LinkView.{LinkView}
use Rattle.millicent_http.specs.Received.{Received}
use Rattle.wallet_model.specs.Requests.{Pending}
use Rattle.wallet_commands.specs.declared.saying.Saying.{Saying}
use Rattle.wallet_commands.specs.declared.saying.Saying.TheVariants as sayings

-- the contents that a get brings; of other requests nothing is said then
abbrev pub contents_said : Pending → Received → List ℕ
contents_said p r = if (p.ask == 0) && (r.status == 200) then r.contents else []

-- what a command says of a reply before it settles its request; a renewal says nothing then
abbrev pub said_as : Saying → Pending → Received → List ℕ
said_as sayings.Contents p r = contents_said p r
said_as (sayings.Renewal vendor) p r = []

-- bytes were said
abbrev pub IsSaid : List ℕ → LinkView → LinkView → Type 0
IsSaid bytes before after = after ≡ record before { said = option_map (λ s. s ++ bytes) before.said }

-- saying them failed; a first part of them may have been said
pub record IsSaidInPart (bytes : List ℕ) (before after : LinkView) : Type 0 where
  pub same : after ≡ record before { faults = after.faults; said = after.said }
  pub rose : Rose before.faults after.faults
  pub part : Told (AddsPart bytes) before.said after.said
