-- What an audit of books on disks answers, by their bytes.
use Rattle.std.specs.Prelude.{◌≡◌, ◌⊎◌, ℕ, IsTrue, List, map, take, slice_get, slice_set, Option, Some, None, Result, Ok, Err}
use Rattle.std.specs.List.{AllZip, AllByRecursion, list_any}
use Rattle.mc_outside.specs.Bytes.{BeginsWith, Rose}
use Rattle.mc_outside.specs.DiskView.{DiskView}
use Rattle.mc_requests.specs.declared.limits.TheConstants.Limits.{FULL}
use Rattle.ledger_model.specs.Histories.{History}
use Rattle.ledger_model.specs.Lawful.{IsLawful}
use Rattle.scrip_journal.specs.Layout.{header, Encodes}
use Rattle.audit_model.specs.declared.sums.Report.{Report}
use Rattle.wallet_model.specs.Follows.{is_wallet}
use Rattle.audit_search.specs.Audit.{Audited}
use Rattle.relay_core.specs.declared.tree.Tree.{Tree}
use Rattle.tree_search.specs.Audit.{TreeAudited}
use Rattle.audit_search.specs.declared.fault.BooksFault.{BooksFault}
use Rattle.audit_search.specs.declared.fault.BooksFault.TheVariants as founds
use Rattle.audit_cmd.specs.declared.fault.AuditFault.{AuditFault}
use Rattle.audit_cmd.specs.declared.fault.AuditFault.TheVariants as faults
use Rattle.audit_cmd.specs.OneBook.{Causes}
use Rattle.audit_cmd.specs.Reading.{audit_causes, IsWalletsHistory}

-- ---- the bytes of disks

-- the disks tell these bytes, in their order
abbrev pub AreTold : {D : Type 0} → (D → DiskView) → List D → List (List ℕ) → Type 0
AreTold view disks books = AllZip (λ d bytes. (view d).contents ≡ Some bytes) disks books

-- the counts of their faults
abbrev pub counts : {D : Type 0} → (D → DiskView) → List D → List ℕ
counts view disks = map (λ d. (view d).faults) disks

-- ---- lawful books

-- the bytes encode the history of a house, which is lawful
pub record IsHousesHistory (bytes : List ℕ) (h : History) : Type 0 where
  pub of_bytes : Encodes h bytes
  pub lawful : IsLawful FULL h

-- a lawful history, of a house or of a wallet
abbrev pub IsHistoryOf : List ℕ → History → Type 0
IsHistoryOf bytes h = IsHousesHistory bytes h ⊎ IsWalletsHistory bytes h

abbrev pub IsLawfulBook : List ℕ → Type 0
IsLawfulBook bytes = (h : History) × IsHistoryOf bytes h

-- ---- which book decides

-- Each book whose disk tells its bytes is read, whatever the other disks tell.
abbrev pub EachRead : {D : Type 0} → (D → DiskView) → (List ℕ → Type 0) → List D → Type 0
EachRead view IsRead disks = AllByRecursion (λ d. (bytes : List ℕ) → (view d).contents ≡ Some bytes → IsRead bytes) disks

-- All books before this one are read, and this one is not, for this cause; of each that holds where its own disk tells its bytes.
pub record IsFirst {D : Type 0} (view : D → DiskView) (IsRead : List ℕ → Type 0) (disks : List D) (book : ℕ) (Cause : List ℕ → Type 0) : Type 0 where
  pub disk : D
  pub there : slice_get disks book ≡ Some disk
  pub before : EachRead view IsRead (take book disks)
  pub cause : (bytes : List ℕ) → (view disk).contents ≡ Some bytes → Cause bytes

-- The fault is that of the first book that is not read, or whose disk failed; else all are read, or memory was refused.
abbrev pub FaultOfFirst : {D : Type 0} → (D → DiskView) → Causes → (List ℕ → Type 0) → List D → AuditFault → Type 0
FaultOfFirst view causes IsRead disks (faults.NotJournal book) = IsFirst view IsRead disks book (λ bytes. BeginsWith header bytes → ⊥)
FaultOfFirst view causes IsRead disks (faults.BadRecord book place) = IsFirst view IsRead disks book (λ bytes. causes.spoiled bytes place)
FaultOfFirst view causes IsRead disks (faults.BadChain book place stood computed) = IsFirst view IsRead disks book (λ bytes. causes.unchained bytes place stood computed)
FaultOfFirst view causes IsRead disks (faults.Unlawful book place) = IsFirst view IsRead disks book (λ bytes. causes.unlawful bytes place)
FaultOfFirst view causes IsRead disks (faults.Disk book) = EachRead view IsRead (take book disks)
FaultOfFirst view causes IsRead disks faults.BadBooks = EachRead view IsRead disks
FaultOfFirst view causes IsRead disks (faults.MissingBook name) = EachRead view IsRead disks
FaultOfFirst view causes IsRead disks (faults.Stranger book name id) = EachRead view IsRead disks
FaultOfFirst view causes IsRead disks faults.NoMemory = Unit {0}

-- The first book that is not read decides, whatever the disks of the others tell; what is found else is found of books that are all read.
abbrev pub FirstDecides : {D A : Type 0} → (D → DiskView) → Causes → (List ℕ → Type 0) → List D → Result A AuditFault → Type 0
FirstDecides view causes IsRead disks (Ok a) = EachRead view IsRead disks
FirstDecides view causes IsRead disks (Err fault) = FaultOfFirst view causes IsRead disks fault

-- ---- what is answered

-- The books stand for lawful histories of houses, of which this is found by an audit that answers so.
pub record AreAuditedBy {R : Type 0} (Audits : List History → Result R BooksFault → Type 0) (books : List (List ℕ)) (found : Result R BooksFault) : Type 0 where
  pub histories : List History
  pub stand : AllZip IsHousesHistory books histories
  pub audited : Audits histories found

-- The books stand for lawful histories, among them that of a wallet.
pub record HaveWallet (books : List (List ℕ)) : Type 0 where
  pub histories : List History
  pub stand : AllZip IsHistoryOf books histories
  pub wallet : IsTrue (list_any is_wallet histories)

-- What is found of books that are all read, by their bytes: they stand together or not, by the audit.
abbrev pub FindsBy : {R : Type 0} → (List History → Result R BooksFault → Type 0) → List (List ℕ) → Result R AuditFault → Type 0
FindsBy Audits books (Ok r) = AreAuditedBy Audits books (Ok r)
FindsBy Audits books (Err faults.BadBooks) = HaveWallet books ⊎ AreAuditedBy Audits books (Err founds.BadBooks)
FindsBy Audits books (Err (faults.MissingBook name)) = AreAuditedBy Audits books (Err (founds.MissingBook name))
FindsBy Audits books (Err (faults.Stranger book name id)) = AreAuditedBy Audits books (Err (founds.Stranger book name id))
FindsBy Audits books (Err _) = Unit {0}

-- of the books of an audit, which are read as lawful ones
abbrev pub AuditDecides : {D A : Type 0} → (D → DiskView) → List D → Result A AuditFault → Type 0
AuditDecides view disks found = FirstDecides view audit_causes IsLawfulBook disks found

-- the books are those of one broker and of vendors with names of their own, or not
abbrev pub FindsOf : List (List ℕ) → Result Report AuditFault → Type 0
FindsOf books found = FindsBy (Audited FULL) books found

-- the books are those of brokers and of vendors, each with a name of its own, or not
abbrev pub FindsTree : List (List ℕ) → Result Tree AuditFault → Type 0
FindsTree books found = FindsBy (TreeAudited FULL) books found

-- why lawful books, none of which is a wallet's, are not reported
abbrev pub fault_of : BooksFault → AuditFault
fault_of founds.BadBooks = faults.BadBooks
fault_of (founds.MissingBook name) = faults.MissingBook name
fault_of (founds.Stranger book name id) = faults.Stranger book name id
fault_of founds.NoMemory = faults.NoMemory

-- what is found where all books are lawful: none is told to be otherwise
abbrev pub IsOfLawful : {A : Type 0} → Result A AuditFault → Type 0
IsOfLawful (Err (faults.NotJournal book)) = ⊥
IsOfLawful (Err (faults.BadRecord book place)) = ⊥
IsOfLawful (Err (faults.BadChain book place stood computed)) = ⊥
IsOfLawful (Err (faults.Unlawful book place)) = ⊥
IsOfLawful _ = Unit {0}

-- the place of the book that is told, where one is
abbrev pub told_book : {A : Type 0} → Result A AuditFault → Option ℕ
told_book (Err (faults.NotJournal book)) = Some book
told_book (Err (faults.BadRecord book place)) = Some book
told_book (Err (faults.BadChain book place stood computed)) = Some book
told_book (Err (faults.Unlawful book place)) = Some book
told_book (Err (faults.Disk book)) = Some book
told_book (Err (faults.Stranger book name id)) = Some book
told_book _ = None

-- what ends the reading of books: memory was refused, or a book is told that is so
abbrev pub EndsReading : (ℕ → Type 0) → AuditFault → Type 0
EndsReading Is (faults.NotJournal book) = Is book
EndsReading Is (faults.BadRecord book place) = Is book
EndsReading Is (faults.BadChain book place stood computed) = Is book
EndsReading Is (faults.Unlawful book place) = Is book
EndsReading Is (faults.Disk book) = Is book
EndsReading Is faults.NoMemory = Unit {0}
EndsReading Is _ = ⊥

-- what is found of books that were all read: none is told not to be
abbrev pub IsOfAll : {A : Type 0} → Result A AuditFault → Type 0
IsOfAll (Err (faults.NotJournal book)) = ⊥
IsOfAll (Err (faults.BadRecord book place)) = ⊥
IsOfAll (Err (faults.BadChain book place stood computed)) = ⊥
IsOfAll (Err (faults.Unlawful book place)) = ⊥
IsOfAll (Err (faults.Disk book)) = ⊥
IsOfAll _ = Unit {0}

-- ---- the counts of faults

-- that of the disk at this place rose, and the others stayed
pub record RoseAt (book : ℕ) (before after : List ℕ) : Type 0 where
  pub old : ℕ
  pub new : ℕ
  pub there : slice_get before book ≡ Some old
  pub rose : Rose old new
  pub others : after ≡ slice_set before book new

-- a disk is told to have failed where its count rose, and all stayed else
abbrev pub CountsBy : {A : Type 0} → Result A AuditFault → List ℕ → List ℕ → Type 0
CountsBy (Err (faults.Disk book)) before after = RoseAt book before after
CountsBy _ before after = after ≡ before
