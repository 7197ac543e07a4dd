-- Founding the book of a wallet, up to the line that is said.
use Rattle.std.specs.Prelude.{◌≡◌, ℕ, List, [], ◌∷◌, Some, None}
use Rattle.mc_outside.specs.DiskView.{DiskView}
use Rattle.mc_outside.specs.LinkView.{LinkView}
use Rattle.mc_records.specs.Entry.{Entry, Site}
use Rattle.mc_requests.specs.declared.refusal.Refusal.TheVariants as refusals
use Rattle.scrip_journal.specs.Founds.{IsFree, IsTaken}
use Rattle.command_status.specs.declared.status.Status.{Status}
use Rattle.command_status.specs.declared.status.Status.TheVariants as ends
use Rattle.command_status.specs.Founding.{FoundAt}
use Rattle.wallet_core.specs.OnDisk.{EncodesWallet}
use Rattle.wallet_commands.specs.Causes.{NoneFailed, DiskFailed}

-- the entry that founds a wallet of this name
abbrev pub site_of : List ℕ → ℕ → Entry
site_of name moment = Site moment 2 name None

-- What the disk is then, by how the command ended, where it had these bytes. Those that a book can't be founded on stay, also
-- where the disk failed.
abbrev pub FoundsBy : DiskView → List ℕ → List ℕ → ℕ → Status → DiskView → Type 0
FoundsBy before name bytes moment (ends.Founded said) after = (said ≡ name) × IsFree bytes × EncodesWallet after (site_of name moment ∷ [])
FoundsBy before name bytes moment (ends.Refused f) after = (size : ℕ) × (f ≡ refusals.NotEmpty size) × IsTaken bytes size × (after.contents ≡ before.contents)
FoundsBy before name bytes moment ends.NoMemory after = after.contents ≡ before.contents
FoundsBy before name bytes moment ends.DiskFault after = (IsFree bytes → ⊥) → after.contents ≡ before.contents
FoundsBy before name bytes moment _ after = ⊥

-- how founding a wallet of this name ended, on an outside whose disk had these bytes
abbrev pub FoundsBook : {O : Type 0} → (O → LinkView) → (O → DiskView) → List ℕ → List ℕ → O → Status → O → Type 0
FoundsBook link disk name bytes a status b = (moment : ℕ) × FoundAt link disk (site_of name moment) a status b moment × FoundsBy (disk a) name bytes moment status (disk b)

-- why it ended so; it ends in no other way than these
abbrev pub InitCauses : {O : Type 0} → (O → LinkView) → (O → DiskView) → O → Status → O → Type 0
InitCauses link disk a (ends.Founded name) b = NoneFailed link disk a b
InitCauses link disk a (ends.Refused f) b = ((size : ℕ) × (f ≡ refusals.NotEmpty size)) × NoneFailed link disk a b
InitCauses link disk a ends.NoMemory b = NoneFailed link disk a b
InitCauses link disk a ends.DiskFault b = DiskFailed link disk a b
InitCauses link disk a _ b = ⊥

-- What the command does. Of a book it is said where the disk tells its bytes, and of causes on every outside.
abbrev pub Inits : {O : Type 0} → (O → LinkView) → (O → DiskView) → List ℕ → O → Status → O → Type 0
Inits link disk name a status b = InitCauses link disk a status b × ((bytes : List ℕ) → (disk a).contents ≡ Some bytes → FoundsBook link disk name bytes a status b)
