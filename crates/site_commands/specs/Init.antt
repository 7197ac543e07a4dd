-- What founding a site does with the disk of its book, up to the line that is said.
use Rattle.std.specs.Prelude.{◌≡◌, ℕ, List, [], ◌∷◌}
use Rattle.mc_outside.specs.Bytes.{Rose}
use Rattle.mc_outside.specs.DiskView.{DiskView}
use Rattle.mc_outside.specs.LinkView.{LinkView}
use Rattle.mc_requests.specs.declared.refusal.Refusal.TheVariants as refusals
use Rattle.scrip_journal.specs.Founds.{IsFree, IsTaken}
use Rattle.command_status.specs.declared.status.Status.{Status}
use Rattle.command_status.specs.declared.status.Status.TheVariants as ends
use Rattle.command_status.specs.Founding.{FoundAt}
use Rattle.site_words.specs.Words.{Founder}
use Rattle.site_commands.specs.Founding.{site_of}
use Rattle.site_commands.specs.Serving.{EncodesLawful}

-- What the disk is then, by how the command ended, where it had these bytes. Those that a book can't be founded on stay, also
-- where the disk failed.
abbrev pub FoundsBy : DiskView → ℕ → Founder → List ℕ → ℕ → Status → DiskView → Type 0
FoundsBy before kind founder bytes moment (ends.Founded name) after = (name ≡ founder.name) × IsFree bytes × EncodesLawful after (site_of kind founder moment ∷ [])
FoundsBy before kind founder bytes moment (ends.Refused f) after = (size : ℕ) × (f ≡ refusals.NotEmpty size) × IsTaken bytes size × (after.contents ≡ before.contents)
FoundsBy before kind founder bytes moment ends.NoMemory after = after.contents ≡ before.contents
FoundsBy before kind founder bytes moment ends.DiskFault after = (IsFree bytes → ⊥) → after.contents ≡ before.contents
FoundsBy before kind founder bytes moment _ after = ⊥

-- how founding a site of a kind ended
abbrev pub FoundsBook : {O : Type 0} → (O → LinkView) → (O → DiskView) → ℕ → Founder → List ℕ → O → Status → O → Type 0
FoundsBook link disk kind founder bytes a status b = (moment : ℕ) × FoundAt link disk (site_of kind founder moment) a status b moment × FoundsBy (disk a) kind founder bytes moment status (disk b)

-- The count of the disk's faults rose where the disk failed, and stayed else; it ends in no other way than
-- these.
abbrev pub FoundCauses : DiskView → Status → DiskView → Type 0
FoundCauses before ends.DiskFault after = Rose before.faults after.faults
FoundCauses before (ends.Founded name) after = after.faults ≡ before.faults
FoundCauses before (ends.Refused f) after = ((size : ℕ) × (f ≡ refusals.NotEmpty size)) × (after.faults ≡ before.faults)
FoundCauses before ends.NoMemory after = after.faults ≡ before.faults
FoundCauses before _ after = ⊥

-- the same, and no link failed
abbrev pub InitCauses : {O : Type 0} → (O → LinkView) → (O → DiskView) → O → Status → O → Type 0
InitCauses link disk a status b = FoundCauses (disk a) status (disk b) × ((link b).faults ≡ (link a).faults)
