-- Listing the holdings, and the lines of those that may be sold on, up to the lines that are said.
use Rattle.std.specs.Prelude.{◌≡◌, ◌⊎◌, ℕ, List, [], Some}
use Rattle.mc_outside.specs.DiskView.{DiskView}
use Rattle.mc_outside.specs.LinkView.{LinkView}
use Rattle.mc_requests.specs.declared.refusal.Refusal.TheVariants as refusals
use Rattle.ledger_model.specs.Histories.{History}
use Rattle.scrip_journal.specs.Layout.{Encodes}
use Rattle.command_status.specs.declared.status.Status.{Status}
use Rattle.command_status.specs.declared.status.Status.TheVariants as ends
use Rattle.wallet_model.specs.Holdings.{holdings}
use Rattle.wallet_model.specs.Asks.{Offered}
use Rattle.held_lines.specs.Resold.{resold_for, lines_of}
use Rattle.wallet_commands.specs.Lines.{holding_lines}
use Rattle.wallet_core.specs.OnDisk.{EncodesWallet, Untouched, NotOpened}
use Rattle.wallet_commands.specs.Causes.{WalletCauses}
use Rattle.wallet_commands.specs.Paying.{NotAsked, Clocked}

-- The book encoded a history, and the lines of its holdings are said, or memory was refused for them.
pub record Listed {O : Type 0} (link : O → LinkView) (disk : O → DiskView) (bytes : List ℕ) (a : O) (status : Status) (b : O) : Type 0 where
  pub history : History
  pub stands : Encodes history bytes
  pub said : (status ≡ ends.Did (holding_lines (holdings history))) ⊎ (status ≡ ends.NoMemory)
  pub left : EncodesWallet (disk b) history
  pub untouched : Untouched link disk a b

-- how listing ended, on an outside whose disk had these bytes
abbrev pub ListsBook : {O : Type 0} → (O → LinkView) → (O → DiskView) → List ℕ → O → Status → O → Type 0
ListsBook link disk bytes a status b = NotOpened link disk bytes a status b ⊎ Listed link disk bytes a status b

-- What the command does. Of a book it is said where the disk tells its bytes, and of causes on every outside.
abbrev pub Lists : {O : Type 0} → (O → LinkView) → (O → DiskView) → O → Status → O → Type 0
Lists link disk a status b = WalletCauses link disk a status b × ((bytes : List ℕ) → (disk a).contents ≡ Some bytes → ListsBook link disk bytes a status b)

-- ---- the pieces of a vendor that may be sold on

-- their lines are said; there are none (62 NoFunds with 0); or memory was refused
abbrev pub SaysHeld : List Offered → Status → Type 0
SaysHeld os (ends.Did lines) = (os ≡ [] → ⊥) × (lines ≡ lines_of os)
SaysHeld os (ends.Refused f) = (f ≡ refusals.NoFunds 0) × (os ≡ [])
SaysHeld os ends.NoMemory = Unit {0}
SaysHeld os _ = ⊥

-- how it ended, on an outside whose disk had these bytes: at one reading of the clock, and no entry was added
abbrev pub ListsHeld : {O : Type 0} → (O → LinkView) → (O → DiskView) → (vendor : List ℕ) → List ℕ → O → Status → O → Type 0
ListsHeld link disk vendor bytes a status b =
    NotOpened link disk bytes a status b
    ⊎ Clocked link (λ h t clocked. SaysHeld (resold_for h t vendor) status × NotAsked link disk h a clocked b) bytes a

abbrev pub ListsLines : {O : Type 0} → (O → LinkView) → (O → DiskView) → (vendor : List ℕ) → O → Status → O → Type 0
ListsLines link disk vendor a status b = WalletCauses link disk a status b × ((bytes : List ℕ) → (disk a).contents ≡ Some bytes → ListsHeld link disk vendor bytes a status b)
