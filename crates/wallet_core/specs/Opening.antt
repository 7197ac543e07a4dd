-- What founding and opening the book of a wallet answer.
use Rattle.std.specs.Prelude.{◌≡◌, ℕ, List, [], ◌∷◌, Result, Ok, Err}
use Rattle.mc_outside.specs.Bytes.{BeginsWith}
use Rattle.mc_outside.specs.DiskView.{DiskView}
use Rattle.mc_requests.specs.declared.limits.Limits.{Limits}
use Rattle.mc_records.specs.Chains.{TellsChain}
use Rattle.mc_records.specs.Entry.{Entry, moment_of}
use Rattle.mc_requests.specs.Limits.{AreInRange}
use Rattle.ledger_model.specs.Histories.{History, time}
use Rattle.scrip_journal.specs.Layout.{header, Encodes}
use Rattle.scrip_journal.specs.Founds.{fault_disk, IsFree, IsTaken}
use Rattle.scrip_journal.specs.Causes.{Only, SpoilsAt, UnchainsAt, IsUnlawfulAt, IsOfOther}
use Rattle.scrip_journal.specs.declared.fault.HouseFault.{HouseFault}
use Rattle.scrip_journal.specs.declared.fault.HouseFault.TheVariants.{NotJournal, BadRecord, BadChain, Unlawful, WrongKind, NotEmpty, Disk, NoMemory}
use Rattle.book_opening.specs.Opener.{OpenerView}
use Rattle.wallet_model.specs.Follows.{WalletFollows}
use Rattle.wallet_book.specs.Book.{BookView, WalletRepresents}
use Rattle.wallet_core.specs.WalletView.{WalletView}
use Rattle.wallet_core.specs.declared.opening.WalletOpener.{WalletOpener}
use Rattle.wallet_core.specs.Wallet.{WalletStands}

-- the disk that comes back, whatever is answered
abbrev pub wallet_disk : {D : Type 0} → Result (WalletView D) (HouseFault D) → D
wallet_disk (Ok x) = x.journal.disk
wallet_disk (Err f) = fault_disk f

-- ---- founding

-- The wallet stands for this entry alone, at its moment, on a disk that was free.
pub record FoundedFor {D : Type 0} (view : D → DiskView) (limits : Limits) (e : Entry) (bytes : List ℕ) (x : WalletView D) : Type 0 where
  pub free : IsFree bytes
  pub wallet : WalletStands view x (e ∷ [])
  pub time' : x.book.time ≡ moment_of e
  pub limits' : x.book.limits ≡ limits

-- what is answered by the bytes of the disk
abbrev pub FoundsWalletBy : {D : Type 0} → (D → DiskView) → Limits → Entry → List ℕ → Result (WalletView D) (HouseFault D) → Type 0
FoundsWalletBy view limits e bytes (Ok x) = FoundedFor view limits e bytes x
FoundsWalletBy view limits e bytes (Err (NotEmpty d count)) = IsTaken bytes count
FoundsWalletBy view limits e bytes (Err (Disk d)) = Unit {0}
FoundsWalletBy view limits e bytes (Err (NoMemory d)) = Unit {0}
FoundsWalletBy view limits e bytes (Err _) = ⊥

-- ---- opening

-- The bytes encode a history, and the wallet stands for it, at the time of the history.
pub record OpenedFor {D : Type 0} (view : D → DiskView) (limits : Limits) (bytes : List ℕ) (x : WalletView D) : Type 0 where
  pub history : History
  pub of_bytes : Encodes history bytes
  pub wallet : WalletStands view x history
  pub time' : x.book.time ≡ time history
  pub limits' : x.book.limits ≡ limits

-- what is answered by the bytes of the disk
abbrev pub OpensWallet : {D : Type 0} → (D → DiskView) → Limits → List ℕ → Result (WalletView D) (HouseFault D) → Type 0
OpensWallet view limits bytes (Ok x) = OpenedFor view limits bytes x
OpensWallet view limits bytes (Err (NotJournal d)) = BeginsWith header bytes → ⊥
OpensWallet view limits bytes (Err (BadRecord d place)) = SpoilsAt WalletFollows (Only 2) bytes place
OpensWallet view limits bytes (Err (BadChain d place stood computed)) = UnchainsAt WalletFollows (Only 2) bytes place stood computed
OpensWallet view limits bytes (Err (Unlawful d place)) = IsUnlawfulAt WalletFollows (Only 2) bytes place
OpensWallet view limits bytes (Err (WrongKind d)) = IsOfOther (Only 2) bytes
OpensWallet view limits bytes (Err (NotEmpty d count)) = ⊥
OpensWallet view limits bytes (Err (Disk d)) = Unit {0}
OpensWallet view limits bytes (Err (NoMemory d)) = Unit {0}

-- ---- who opens it

-- what is kept represents the history, at its time
pub record StandsAt (b : BookView) (h : History) : Type 0 where
  pub book : WalletRepresents b h
  pub time' : b.time ≡ time h

-- A book is opened as a wallet by the laws of wallets.
abbrev pub opener_of : WalletOpener → OpenerView BookView
opener_of o = record { ready = AreInRange o.limits; may = WalletFollows; asks = TellsChain; kinds = Only 2; belongs = λ b. b.limits ≡ o.limits; holds = StandsAt }
