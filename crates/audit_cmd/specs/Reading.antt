-- What reading a book answers.
use Rattle.std.specs.Prelude.{◌≡◌, ◌⊎◌, ℕ, List, Option, Some, None, Result, Ok, Err}
use Rattle.mc_outside.specs.Bytes.{BeginsWith}
use Rattle.mc_records.specs.Chains.{TellsChain}
use Rattle.mc_requests.specs.declared.limits.TheConstants.Limits.{FULL}
use Rattle.ledger_model.specs.Histories.{History, time}
use Rattle.ledger_model.specs.Houses.{IsHouseKind}
use Rattle.ledger_model.specs.Lawful.{MayFollow}
use Rattle.scrip_journal.specs.Layout.{header, Encodes}
use Rattle.scrip_journal.specs.Causes.{Only, SpoilsAt, UnchainsAt, IsUnlawfulAt, IsOfOther}
use Rattle.scrip_journal.specs.Founds.{fault_disk}
use Rattle.scrip_journal.specs.declared.fault.HouseFault.{HouseFault}
use Rattle.scrip_journal.specs.declared.fault.HouseFault.TheVariants.{NotJournal, BadRecord, BadChain, Unlawful, WrongKind, NotEmpty, Disk, NoMemory}
use Rattle.book_opening.specs.Opener.{OpenerView}
use Rattle.house_core.specs.Bench.{Represents, house_time, limits_of}
use Rattle.house_state.specs.Trade.{TradeView}
use Rattle.vendor_core.specs.Shelf.{shelf_view}
use Rattle.broker_core.specs.Desk.{desk_view}
use Rattle.wallet_model.specs.Follows.{WalletFollows, IsWalletBook}
use Rattle.audit_sums.specs.declared.audit_sums.BookSums.{BookSums}
use Rattle.audit_sums.specs.Learned.{SumsRepresent}
use Rattle.audit_search.specs.Audit.{IsLearned}
use Rattle.audit_cmd.specs.OneBook.{Causes, ReadsBy}
use Rattle.audit_cmd.specs.declared.reader.Reader.{Reader}
use Rattle.audit_cmd.specs.declared.reading.BookReader.{BookReader}
use Rattle.audit_cmd.specs.declared.reading.BookReader.TheVariants as readers

-- what reads has learned a history, and its house time is that of the history
pub record Reads {T : Type 0} (trade : T → TradeView) (r : Reader T) (h : History) : Type 0 where
  pub house : Represents trade r.bench h
  pub time' : house_time r.bench ≡ time h
  pub sums' : SumsRepresent r.sums h

-- ---- who opens a book

-- the reader of a book has the greatest limits
abbrev pub IsFull : BookReader → Type 0
IsFull (readers.Vendor r) = limits_of r.bench ≡ FULL
IsFull (readers.Broker r) = limits_of r.bench ≡ FULL

-- it has learned a history
abbrev pub HasRead : BookReader → History → Type 0
HasRead (readers.Vendor r) h = Reads shelf_view r h
HasRead (readers.Broker r) h = Reads desk_view r h

-- what was kept of the book
abbrev pub kept_by : BookReader → BookSums
kept_by (readers.Vendor r) = r.sums
kept_by (readers.Broker r) = r.sums

-- books of vendors and brokers are opened, by the ledger under the greatest limits
abbrev pub auditor : OpenerView BookReader
auditor = record {
  ready = Unit {0};
  may = MayFollow FULL;
  asks = TellsChain;
  kinds = IsHouseKind;
  belongs = IsFull;
  holds = HasRead;
}

-- ---- why a book is not read

-- Behind lawful entries of a house, or of a wallet, the bytes can't stand, from this place on.
abbrev pub IsSpoiledFrom : List ℕ → ℕ → Type 0
IsSpoiledFrom bytes place = SpoilsAt (MayFollow FULL) IsHouseKind bytes place ⊎ SpoilsAt WalletFollows (Only 2) bytes place

-- Behind such entries comes one whose chain, at this place, is another than the one computed.
abbrev pub IsUnchainedFrom : List ℕ → ℕ → List ℕ → List ℕ → Type 0
IsUnchainedFrom bytes place stood computed =
    UnchainsAt (MayFollow FULL) IsHouseKind bytes place stood computed ⊎ UnchainsAt WalletFollows (Only 2) bytes place stood computed

-- The first entry that is not lawful after those before it, as that of a house or of a wallet, is behind the gate at
-- this place; in a book without entries that is its only gate.
abbrev pub IsUnlawfulFrom : List ℕ → ℕ → Type 0
IsUnlawfulFrom bytes place = IsUnlawfulAt (MayFollow FULL) IsHouseKind bytes place ⊎ IsUnlawfulAt WalletFollows (Only 2) bytes place

-- why a book is not audited
abbrev pub audit_causes : Causes
audit_causes = record { spoiled = IsSpoiledFrom; unchained = IsUnchainedFrom; unlawful = IsUnlawfulFrom }

-- ---- what is answered

-- the disk of a wallet's book that was read, or of one that was not
abbrev pub wallets_disk : {D : Type 0} → Result D (HouseFault D) → D
wallets_disk (Ok d) = d
wallets_disk (Err f) = fault_disk f

-- the bytes encode a lawful history, of which all was kept
pub record ReadsAs (bytes : List ℕ) (s : BookSums) : Type 0 where
  pub history : History
  pub of_bytes : Encodes history bytes
  pub learned : IsLearned FULL s history

-- the bytes encode the history of a wallet, which is lawful
pub record IsWalletsHistory (bytes : List ℕ) (h : History) : Type 0 where
  pub of_bytes : Encodes h bytes
  pub lawful : IsWalletBook h

-- what is answered of a house's book by the bytes of the disk
abbrev pub ReadsHouse : {D : Type 0} → List ℕ → Result (D × BookSums) (HouseFault D) → Type 0
ReadsHouse bytes (Ok x) = ReadsAs bytes x.1
ReadsHouse bytes (Err (NotJournal d)) = BeginsWith header bytes → ⊥
ReadsHouse bytes (Err (BadRecord d place)) = SpoilsAt (MayFollow FULL) IsHouseKind bytes place
ReadsHouse bytes (Err (BadChain d place stood computed)) = UnchainsAt (MayFollow FULL) IsHouseKind bytes place stood computed
ReadsHouse bytes (Err (Unlawful d place)) = IsUnlawfulAt (MayFollow FULL) IsHouseKind bytes place
ReadsHouse bytes (Err (WrongKind d)) = IsOfOther IsHouseKind bytes
ReadsHouse bytes (Err (NotEmpty d count)) = ⊥
ReadsHouse bytes (Err (Disk d)) = Unit {0}
ReadsHouse bytes (Err (NoMemory d)) = Unit {0}

-- what is answered of a wallet's
abbrev pub ReadsWallet : {D : Type 0} → List ℕ → Result D (HouseFault D) → Type 0
ReadsWallet bytes (Ok d) = (h : History) × IsWalletsHistory bytes h
ReadsWallet bytes (Err (NotJournal d)) = BeginsWith header bytes → ⊥
ReadsWallet bytes (Err (BadRecord d place)) = SpoilsAt WalletFollows (Only 2) bytes place
ReadsWallet bytes (Err (BadChain d place stood computed)) = UnchainsAt WalletFollows (Only 2) bytes place stood computed
ReadsWallet bytes (Err (Unlawful d place)) = IsUnlawfulAt WalletFollows (Only 2) bytes place
ReadsWallet bytes (Err (WrongKind d)) = IsOfOther (Only 2) bytes
ReadsWallet bytes (Err (NotEmpty d count)) = ⊥
ReadsWallet bytes (Err (Disk d)) = Unit {0}
ReadsWallet bytes (Err (NoMemory d)) = Unit {0}

-- what was kept is of the lawful book that the bytes encode: nothing of a wallet's
abbrev pub IsKeptOf : List ℕ → Option BookSums → Type 0
IsKeptOf bytes (Some s) = ReadsAs bytes s
IsKeptOf bytes None = (h : History) × IsWalletsHistory bytes h

-- what is answered of a book of either kind
abbrev pub ReadsBook : {D : Type 0} → List ℕ → Result (D × Option BookSums) (HouseFault D) → Type 0
ReadsBook bytes found = ReadsBy audit_causes IsKeptOf bytes found
