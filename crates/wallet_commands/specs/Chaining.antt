-- Switching the book of a wallet and telling its chain, up to the line that is said.
use Rattle.std.specs.Prelude.{◌≡◌, ◌⊎◌, ℕ, if◌then◌else◌, List, [], ◌∷◌, ◌++◌, length, Option, Some, None, IsSome, Err}
use Rattle.mc_outside.specs.DiskView.{DiskView, Ran}
use Rattle.mc_outside.specs.LinkView.{LinkView}
use Rattle.mc_records.specs.Chains.{chain, has_switch}
use Rattle.mc_requests.specs.declared.limits.TheConstants.Limits.{FULL}
use Rattle.mc_records.specs.Entry.{Entry, Switch}
use Rattle.ledger_model.specs.Histories.{History}
use Rattle.ledger_model.specs.Houses.{site_name}
use Rattle.ledger_model.specs.Lines as lines
use Rattle.ledger_model.specs.Answer.{fitted}
use Rattle.command_status.specs.declared.status.Status.{Status}
use Rattle.command_status.specs.declared.status.Status.TheVariants as ends
use Rattle.said_lines.specs.Lines.{chain_end, chain_line}
use Rattle.wallet_core.specs.declared.outcome.WalletOut.{WalletOut}
use Rattle.wallet_core.specs.declared.outcome.WalletOut.TheVariants as outs
use Rattle.wallet_core.specs.Wallet.{WalletStands}
use Rattle.wallet_commands.specs.Books.{EncodesEither, AddPair, outcome_status}
use Rattle.wallet_core.specs.OnDisk.{EncodesWallet, NotOpened}
use Rattle.wallet_commands.specs.Causes.{SwitchCauses}
use Rattle.wallet_commands.specs.Paying.{Wanted, Clocked}

-- the entry that switches a book of this history, at a time; none where it is switched
abbrev pub switch_entry : History → ℕ → Option Entry
switch_entry h t = if has_switch h then None else Some (Switch t (chain h))

-- the history that stands where the entry was added
abbrev pub switched : History → Option Entry → History
switched h None = h
switched h (Some e) = h ++ e ∷ []

-- ---- the wallet

-- the line of the chain is ended, by the history that the wallet that goes on stands for
abbrev pub EndsLine : {D A : Type 0} → (D → DiskView) → WalletOut D A → List ℕ → List ℕ → Type 0
EndsLine disk (outs.Done x a) old new = (g : History) → WalletStands disk x g → new ≡ old ++ chain_end (length g) (chain g)
EndsLine disk _ old new = Unit {0}

-- how a command ends with this line that switched a book, or did not
abbrev pub chained_status : {D A : Type 0} → List ℕ → WalletOut D A → Status
chained_status line out = outcome_status (λ a. ends.Did line) out

-- ---- the command

-- what became of the entry, where there is one to add, by how the command ended: the line tells the book as it stands then
abbrev pub ChainedBy : DiskView → History → Option Entry → Status → Type 0
ChainedBy d h todo (ends.Did line) = (line ≡ chain_line (site_name h) (length (switched h todo)) (chain (switched h todo))) × EncodesWallet d (switched h todo)
ChainedBy d h (Some e) (ends.Refused f) = (fitted h FULL e ≡ Err (lines.Refuse f)) × EncodesWallet d h
ChainedBy d h (Some e) ends.NoMemory = EncodesWallet d h
ChainedBy d h (Some e) ends.DiskFault = EncodesEither d h e
ChainedBy d h todo _ = ⊥

-- The entry was added, or not; and no link was taken.
pub record HasChained {O : Type 0} (link : O → LinkView) (disk : O → DiskView) (h : History) (todo : Option Entry) (a : O) (clocked : LinkView) (status : Status) (b : O) : Type 0 where
  pub did : ChainedBy (disk b) h todo status
  pub link' : link b ≡ clocked
  pub pairs : Ran (disk a) (disk b) (AddPair (IsSome (link a).sessions) (disk a) h todo status)

-- how telling the chain ended, on an outside whose disk had these bytes
abbrev pub ChainsBook : {O : Type 0} → (O → LinkView) → (O → DiskView) → List ℕ → O → Status → O → Type 0
ChainsBook link disk bytes a status b =
    NotOpened link disk bytes a status b
    ⊎ (Wanted link disk bytes a status b
    ⊎ Clocked link (λ h t clocked. HasChained link disk h (switch_entry h t) a clocked status b) bytes a)

-- What the command does. Of a book it is said where the disk tells its bytes, and of causes on every outside.
abbrev pub Chains : {O : Type 0} → (O → LinkView) → (O → DiskView) → O → Status → O → Type 0
Chains link disk a status b = SwitchCauses link disk a status b × ((bytes : List ℕ) → (disk a).contents ≡ Some bytes → ChainsBook link disk bytes a status b)
