-- The book of a wallet on a disk, and why it is not opened.
use Rattle.std.specs.Prelude.{◌≡◌, ℕ, List, Some}
use Rattle.mc_outside.specs.Bytes.{BeginsWith}
use Rattle.mc_outside.specs.DiskView.{DiskView, OnlyRead}
use Rattle.mc_outside.specs.LinkView.{LinkView}
use Rattle.mc_requests.specs.declared.refusal.Refusal.TheVariants as refusals
use Rattle.ledger_model.specs.Histories.{History}
use Rattle.scrip_journal.specs.Layout.{header, Encodes}
use Rattle.scrip_journal.specs.Causes.{Only, SpoilsAt, UnchainsAt, IsUnlawfulAt, IsOfOther}
use Rattle.command_status.specs.declared.status.Status.{Status}
use Rattle.command_status.specs.declared.status.Status.TheVariants as ends
use Rattle.wallet_model.specs.Follows.{WalletFollows, IsWalletBook}

-- The disk tells bytes that encode the lawful history of a wallet.
pub record HasWallet (d : DiskView) : Type 0 where
  pub history : History
  pub bytes : List ℕ
  pub told : d.contents ≡ Some bytes
  pub stands : Encodes history bytes
  pub lawful : IsWalletBook history

-- The disk tells bytes that encode this lawful history of a wallet, and so does each image that a crash may
-- leave now.
pub record EncodesWallet (d : DiskView) (h : History) : Type 0 where
  pub bytes : List ℕ
  pub told : d.contents ≡ Some bytes
  pub stands : Encodes h bytes
  pub lawful : IsWalletBook h
  pub lasts : (image : List ℕ) → d.leaves image → Encodes h image

-- the book was only read, and nothing was done to the links
pub record Untouched {O : Type 0} (link : O → LinkView) (disk : O → DiskView) (a b : O) : Type 0 where
  pub link' : link b ≡ link a
  pub read : OnlyRead (disk a) (disk b)

-- why a book was not opened as that of a wallet: by its bytes, or since the disk failed or memory was refused; then
-- it was only read, and no link was taken
abbrev pub NotOpened : {O : Type 0} → (O → LinkView) → (O → DiskView) → List ℕ → O → Status → O → Type 0
NotOpened link disk bytes a ends.DiskFault b = Untouched link disk a b
NotOpened link disk bytes a ends.NoMemory b = Untouched link disk a b
NotOpened link disk bytes a ends.NotJournal b = (BeginsWith header bytes → ⊥) × Untouched link disk a b
NotOpened link disk bytes a (ends.BadEntry place) b = SpoilsAt WalletFollows (Only 2) bytes place × Untouched link disk a b
NotOpened link disk bytes a (ends.BadChain place) b = ((stood : List ℕ) × (computed : List ℕ) × UnchainsAt WalletFollows (Only 2) bytes place stood computed) × Untouched link disk a b
NotOpened link disk bytes a (ends.UnlawfulEntry place) b = IsUnlawfulAt WalletFollows (Only 2) bytes place × Untouched link disk a b
NotOpened link disk bytes a (ends.Refused f) b = (f ≡ refusals.WrongKind) × IsOfOther (Only 2) bytes × Untouched link disk a b
NotOpened link disk bytes a _ b = ⊥
