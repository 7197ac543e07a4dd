-- The book of a wallet, opened, and what a crash leaves of it.
use Rattle.std.specs.Prelude.{◌≡◌, ◌⊎◌, ℕ, List, [], ◌∷◌, ◌++◌, Option, Some, None}
use Rattle.mc_outside.specs.DiskView.{DiskView}
use Rattle.mc_outside.specs.LinkView.{LinkView}
use Rattle.mc_records.specs.Entry.{Entry}
use Rattle.ledger_model.specs.Histories.{History}
use Rattle.scrip_journal.specs.Layout.{Encodes}
use Rattle.command_status.specs.declared.status.Status.{Status}
use Rattle.command_status.specs.declared.status.Status.TheVariants as ends
use Rattle.mc_requests.specs.declared.limits.TheConstants.Limits.{FULL}
use Rattle.wallet_model.specs.Follows.{IsWalletBook}
use Rattle.wallet_core.specs.WalletView.{WalletView}
use Rattle.wallet_core.specs.Wallet.{WalletStands}
use Rattle.wallet_core.specs.Opening.{OpenedFor}
use Rattle.wallet_core.specs.declared.outcome.WalletOut.{WalletOut}
use Rattle.wallet_core.specs.declared.outcome.WalletOut.TheVariants as outs
use Rattle.wallet_core.specs.OnDisk.{Untouched}

-- Each image that a crash may leave encodes the history with the entry or without it. With it the history is
-- lawful.
pub record EncodesEither (d : DiskView) (h : History) (e : Entry) : Type 0 where
  pub leaves : (image : List ℕ) → d.leaves image → Encodes h image ⊎ Encodes (h ++ e ∷ []) image
  pub lawful : IsWalletBook (h ++ e ∷ [])

-- a book was opened as that of a wallet
pub record Opened {O : Type 0} (link : O → LinkView) (disk : O → DiskView) (bytes : List ℕ) (a : O) (x : WalletView O) : Type 0 where
  pub opened : OpenedFor disk FULL bytes x
  pub untouched : Untouched link disk a x.journal.disk

-- Where the disk of a wallet tells its bytes, the wallet stands for a history.
abbrev pub IsKnown : {O : Type 0} → (O → DiskView) → WalletView O → Type 0
IsKnown disk x = (bytes : List ℕ) → (disk x.journal.disk).contents ≡ Some bytes → (h : History) × WalletStands disk x h

-- ---- crash pairs

-- A crash pair of before anything was written: an image that a crash before could have left, or the entries as they
-- were. Where what is sent is told, nothing was sent.
abbrev pub OldPair : Type 0 → DiskView → History → List ℕ → List ℕ → Type 0
OldPair tells before h image sent = (before.leaves image ⊎ Encodes h image) × (tells → sent ≡ before.aside)

-- likewise while an entry is written: with it or without
abbrev pub EntryPair : Type 0 → DiskView → History → Entry → List ℕ → List ℕ → Type 0
EntryPair tells before h e image sent = (before.leaves image ⊎ (Encodes h image ⊎ Encodes (h ++ e ∷ []) image)) × (tells → sent ≡ before.aside)

-- A crash pair of a command that has an entry to add, or none, by how it ended: with the entry or without it where it
-- was added or is in doubt, else of before.
abbrev pub AddPair : Type 0 → DiskView → History → Option Entry → Status → List ℕ → List ℕ → Type 0
AddPair tells before h None status image sent = OldPair tells before h image sent
AddPair tells before h (Some e) (ends.Did line) image sent = EntryPair tells before h e image sent
AddPair tells before h (Some e) ends.DiskFault image sent = EntryPair tells before h e image sent
AddPair tells before h (Some e) status image sent = OldPair tells before h image sent

-- ---- by the outcome of a call of the wallet

-- how a command ends by what its wallet did: as told where that is done
abbrev pub outcome_status : {D A : Type 0} → (A → Status) → WalletOut D A → Status
outcome_status told (outs.Done x a) = told a
outcome_status told (outs.Refused x f) = ends.Refused f
outcome_status told (outs.NoMemory x) = ends.NoMemory
outcome_status told (outs.Halted d) = ends.DiskFault
