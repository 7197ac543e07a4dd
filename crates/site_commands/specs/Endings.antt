-- The statuses of what houses answer.
use Rattle.std.specs.Prelude.{◌≡◌, ℕ, List}
use Rattle.mc_requests.specs.declared.refusal.Refusal.TheVariants as refusals
use Rattle.house_core.specs.declared.outcome.Outcome.{Outcome}
use Rattle.house_core.specs.declared.outcome.Outcome.TheVariants as outcomes
use Rattle.house_serving.specs.declared.links.ServeOut.{ServeOut}
use Rattle.house_serving.specs.declared.links.ServeOut.TheVariants as outs
use Rattle.command_status.specs.declared.status.Status.{Status}
use Rattle.command_status.specs.declared.status.Status.TheVariants as ends

-- of serving links
abbrev pub served_status : {O T : Type 0} → ServeOut O T → Status
served_status (outs.Done x n) = ends.Served n
served_status (outs.Link x) = ends.LinkFault
served_status (outs.NoMemory x) = ends.NoMemory
served_status (outs.Halted d) = ends.DiskFault

-- of an operation to a book that was opened, with this line where it was done
abbrev pub outcome_status : {D T A : Type 0} → Outcome D T A → List ℕ → Status
outcome_status (outcomes.Done x a) line = ends.Did line
outcome_status (outcomes.Refused x f) line = ends.Refused f
outcome_status (outcomes.NoMemory x) line = ends.NoMemory
outcome_status (outcomes.Halted d) line = ends.DiskFault

-- of a command over the book of a site of another kind: that is told (52), unless the disk failed or memory was refused
abbrev pub TellsOtherKind : Status → Type 0
TellsOtherKind (ends.Refused f) = f ≡ refusals.WrongKind
TellsOtherKind ends.DiskFault = Unit {0}
TellsOtherKind ends.NoMemory = Unit {0}
TellsOtherKind _ = ⊥
