-- What is told of the books that an auditor's command reads.
use Rattle.std.specs.Prelude.{◌≡◌, ◌⊎◌, ◌<◌, ℕ, Bool, true, false, List, length, take, flat_map, Result, Err, Ok}
use Rattle.std.specs.Global.{Vec}
use Rattle.std.specs.List.{AllZip}
use Rattle.mc_outside.specs.Bytes.{BeginsWith}
use Rattle.mc_outside.specs.DiskView.{DiskView}
use Rattle.mc_requests.specs.declared.refusal.Refusal.{Refusal}
use Rattle.mc_requests.specs.declared.refusal.Refusal.TheVariants as refusals
use Rattle.mc_requests.specs.declared.limits.TheConstants.Limits.{FULL}
use Rattle.ledger_model.specs.Histories.{History}
use Rattle.scrip_journal.specs.Layout.{header}
use Rattle.audit_model.specs.declared.sums.Report.{Report}
use Rattle.audit_report.specs.Text.{report_text}
use Rattle.audit_report.specs.Json.{report_json}
use Rattle.relay_core.specs.declared.tree.Tree.{Tree}
use Rattle.relay_core.specs.Text.{tree_text}
use Rattle.audit_search.specs.declared.fault.BooksFault.{BooksFault}
use Rattle.audit_search.specs.declared.fault.BooksFault.TheVariants as founds
use Rattle.audit_search.specs.Audit.{Audited}
use Rattle.tree_search.specs.Audit.{TreeAudited}
use Rattle.audit_cmd.specs.declared.fault.AuditFault.{AuditFault}
use Rattle.audit_cmd.specs.declared.fault.AuditFault.TheVariants as faults
use Rattle.audit_cmd.specs.Reading.{IsSpoiledFrom, IsUnchainedFrom, IsUnlawfulFrom}
use Rattle.audit_cmd.specs.declared.chain_reading.ChainLine.{ChainLine}
use Rattle.audit_cmd.specs.Books.{AreTold, counts, IsLawfulBook, EachRead, IsFirst, AreAuditedBy, HaveWallet, RoseAt}
use Rattle.audit_cmd.specs.Chains.{IsLineOf, HasLine, SpoilsChain, BreaksChain, HasNoSite}
use Rattle.said_lines.specs.Lines.{chain_line}
use Rattle.command_status.specs.declared.status.Status.{Status}
use Rattle.command_status.specs.declared.status.Status.TheVariants as ends

-- the lines of a report: one of JSON, or those of text
abbrev pub report_lines : Bool → Report → List ℕ
report_lines true r = report_json r
report_lines false r = report_text r

-- the lines of the chains of books, in their order
abbrev pub chain_lines : List ChainLine → List ℕ
chain_lines lines = flat_map (λ l. chain_line l.name l.entries l.chain) lines

-- ---- statuses

-- the lines are said, or memory was refused
abbrev pub IsReportStatus : List ℕ → Status → Type 0
IsReportStatus lines status = (status ≡ ends.Did lines) ⊎ (status ≡ ends.NoMemory)

-- the status of books that are not reported
abbrev pub audit_status : AuditFault → Status
audit_status (faults.NotJournal book) = ends.NotJournal
audit_status (faults.BadRecord book place) = ends.BadEntry place
audit_status (faults.BadChain book place stood computed) = ends.BadChain place
audit_status (faults.Unlawful book place) = ends.UnlawfulEntry place
audit_status (faults.Disk book) = ends.DiskFault
audit_status faults.BadBooks = ends.Refused refusals.BadBooks
audit_status (faults.MissingBook name) = ends.Refused (refusals.MissingBook name)
audit_status (faults.Stranger book name id) = ends.Stranger name id
audit_status faults.NoMemory = ends.NoMemory

-- the status by which it is told what was found of books, where what is found has these lines
abbrev pub TellsBy : {R : Type 0} → (R → List ℕ) → Result R AuditFault → Status → Type 0
TellsBy lines (Ok r) status = IsReportStatus (lines r) status
TellsBy lines (Err fault) status = status ≡ audit_status fault

abbrev pub TellsFound : Bool → Result Report AuditFault → Status → Type 0
TellsFound json found status = TellsBy (report_lines json) found status

abbrev pub TellsTree : Result Tree AuditFault → Status → Type 0
TellsTree found status = TellsBy tree_text found status

-- and by which their chains are told
abbrev pub TellsLines : Result (Vec ChainLine) AuditFault → Status → Type 0
TellsLines (Ok lines) status = IsReportStatus (chain_lines lines.items) status
TellsLines (Err fault) status = status ≡ audit_status fault

-- ---- what is told of books

-- Why lawful books are refused: a wallet's is among them, or an audit finds that they don't stand together, or that a broker
-- sold of a vendor whose book is not there.
abbrev pub RefusesBy : {R : Type 0} → (List History → Result R BooksFault → Type 0) → List (List ℕ) → Refusal → Type 0
RefusesBy Audits books refusals.BadBooks = HaveWallet books ⊎ AreAuditedBy Audits books (Err founds.BadBooks)
RefusesBy Audits books (refusals.MissingBook name) = AreAuditedBy Audits books (Err (founds.MissingBook name))
RefusesBy Audits books _ = ⊥

-- the refusals that come so
abbrev pub IsOfBooks : Refusal → Type 0
IsOfBooks refusals.BadBooks = Unit {0}
IsOfBooks (refusals.MissingBook name) = Unit {0}
IsOfBooks _ = ⊥

-- where all disks tell their bytes
abbrev pub IfTold : {D : Type 0} → (D → DiskView) → List D → (List (List ℕ) → Type 0) → Type 0
IfTold view disks Holds = (contents : List (List ℕ)) → AreTold view disks contents → Holds contents

-- One of the books is the first that is not read, for this cause.
abbrev pub TellsFirst : {D : Type 0} → (D → DiskView) → (List ℕ → Type 0) → List D → (List ℕ → Type 0) → Type 0
TellsFirst view IsRead disks Cause = (book : ℕ) × IsFirst view IsRead disks book Cause

-- All books are read, and this holds of their bytes, where all disks tell them.
pub record TellsAll {D : Type 0} (view : D → DiskView) (IsRead : List ℕ → Type 0) (disks : List D) (Holds : List (List ℕ) → Type 0) : Type 0 where
  pub read : EachRead view IsRead disks
  pub holds : IfTold view disks Holds

-- How the report of books ends, whatever their disks tell, and by their bytes: the books balance and their report is said, or
-- the first that is not read as a lawful one decides, or lawful books are refused, or the first stranger is told, with the
-- name of its book.
abbrev pub ReportsBy : {D R : Type 0} → (D → DiskView) → (List History → Result R BooksFault → Type 0) → (R → List ℕ) → List D → Status → Type 0
ReportsBy {R = R} view Audits said disks (ends.Did lines) = (r : R) × (lines ≡ said r) × TellsAll view IsLawfulBook disks (λ books. AreAuditedBy Audits books (Ok r))
ReportsBy view Audits said disks ends.NotJournal = TellsFirst view IsLawfulBook disks (λ bytes. BeginsWith header bytes → ⊥)
ReportsBy view Audits said disks (ends.BadEntry place) = TellsFirst view IsLawfulBook disks (λ bytes. IsSpoiledFrom bytes place)
ReportsBy view Audits said disks (ends.BadChain place) = (stood : List ℕ) × (computed : List ℕ) × TellsFirst view IsLawfulBook disks (λ bytes. IsUnchainedFrom bytes place stood computed)
ReportsBy view Audits said disks (ends.UnlawfulEntry place) = TellsFirst view IsLawfulBook disks (λ bytes. IsUnlawfulFrom bytes place)
ReportsBy view Audits said disks (ends.Refused refusal) = IsOfBooks refusal × TellsAll view IsLawfulBook disks (λ books. RefusesBy Audits books refusal)
ReportsBy view Audits said disks (ends.Stranger name id) = (book : ℕ) × (book < length disks) × TellsAll view IsLawfulBook disks (λ books. AreAuditedBy Audits books (Err (founds.Stranger book name id)))
ReportsBy view Audits said disks ends.DiskFault = Unit {0}
ReportsBy view Audits said disks ends.NoMemory = Unit {0}
ReportsBy view Audits said disks _ = ⊥

-- by the audit of one broker and vendors, with its report as JSON or as text
abbrev pub ReportsBooks : {D : Type 0} → (D → DiskView) → Bool → List D → Status → Type 0
ReportsBooks view json disks status = ReportsBy view (Audited FULL) (report_lines json) disks status

-- by that of several brokers and vendors
abbrev pub ReportsTree : {D : Type 0} → (D → DiskView) → List D → Status → Type 0
ReportsTree view disks status = ReportsBy view (TreeAudited FULL) tree_text disks status

-- How telling the chains of books ends, likewise: with a line for each, or by the first that has none.
abbrev pub TellsChains : {D : Type 0} → (D → DiskView) → List D → Status → Type 0
TellsChains view disks (ends.Did text) = (lines : List ChainLine) × (text ≡ chain_lines lines) × TellsAll view HasLine disks (λ books. AllZip IsLineOf books lines)
TellsChains view disks ends.NotJournal = TellsFirst view HasLine disks (λ bytes. BeginsWith header bytes → ⊥)
TellsChains view disks (ends.BadEntry place) = TellsFirst view HasLine disks (λ bytes. SpoilsChain bytes place)
TellsChains view disks (ends.BadChain place) = (stood : List ℕ) × (computed : List ℕ) × TellsFirst view HasLine disks (λ bytes. BreaksChain bytes place stood computed)
TellsChains view disks (ends.UnlawfulEntry place) = TellsFirst view HasLine disks (λ bytes. HasNoSite bytes place)
TellsChains view disks ends.DiskFault = Unit {0}
TellsChains view disks ends.NoMemory = Unit {0}
TellsChains view disks _ = ⊥

-- ---- faults of disks

-- The count of one disk rose, and the others stayed; the books before it are read.
pub record FailsAt {D : Type 0} (view : D → DiskView) (IsRead : List ℕ → Type 0) (before after : List D) : Type 0 where
  pub book : ℕ
  pub rose : RoseAt book (counts view before) (counts view after)
  pub first : EachRead view IsRead (take book before)

-- A disk failed where that is told; else no count rose.
abbrev pub CausesOf : {D : Type 0} → (D → DiskView) → (List ℕ → Type 0) → List D → Status → List D → Type 0
CausesOf view IsRead before ends.DiskFault after = FailsAt view IsRead before after
CausesOf view IsRead before _ after = counts view after ≡ counts view before

-- of a report, before whose failing disk the books are lawful, and of chains, before whose they have lines
abbrev pub ReportCauses : {D : Type 0} → (D → DiskView) → List D → Status → List D → Type 0
ReportCauses view before status after = CausesOf view IsLawfulBook before status after

abbrev pub ChainCauses : {D : Type 0} → (D → DiskView) → List D → Status → List D → Type 0
ChainCauses view before status after = CausesOf view HasLine before status after

-- no disk failed
abbrev pub AreCalm : {D : Type 0} → (D → DiskView) → List D → List D → Type 0
AreCalm view before after = (book : ℕ) → RoseAt book (counts view before) (counts view after) → ⊥

-- the report is said, memory was refused, the books are refused, or a stranger is told
abbrev pub EndsReport : ℕ → Type 0
EndsReport number = (number ≡ 0) ⊎ ((number ≡ 5) ⊎ ((number ≡ 7) ⊎ (number ≡ 8)))

-- the lines are said, or memory was refused
abbrev pub EndsChains : ℕ → Type 0
EndsChains number = (number ≡ 0) ⊎ (number ≡ 5)
