-- What is answered of one book.
use Rattle.std.specs.Prelude.{ℕ, List, Result, Ok, Err}
use Rattle.mc_outside.specs.Bytes.{BeginsWith}
use Rattle.scrip_journal.specs.Layout.{header}
use Rattle.scrip_journal.specs.Founds.{fault_disk}
use Rattle.scrip_journal.specs.declared.cursor.TheConstants.{FIRST_GATE}
use Rattle.scrip_journal.specs.declared.fault.HouseFault.{HouseFault}
use Rattle.scrip_journal.specs.declared.fault.HouseFault.TheVariants.{NotJournal, BadRecord, BadChain, Unlawful, WrongKind, NotEmpty, Disk, NoMemory}
use Rattle.audit_cmd.specs.declared.fault.AuditFault.{AuditFault}
use Rattle.audit_cmd.specs.declared.fault.AuditFault.TheVariants as faults

-- why a book is not read, by its bytes and by what is told of them
pub record Causes : Type 1 where
  -- they can't stand from a place on
  pub spoiled : List ℕ → ℕ → Type 0
  -- the chain at a place stood so, and was computed otherwise
  pub unchained : List ℕ → ℕ → List ℕ → List ℕ → Type 0
  -- the entry behind the gate at a place may not stand there
  pub unlawful : List ℕ → ℕ → Type 0

-- what is answered of a book by its bytes, of which this is kept
abbrev pub ReadsBy : {D X : Type 0} → Causes → (List ℕ → X → Type 0) → List ℕ → Result (D × X) (HouseFault D) → Type 0
ReadsBy causes keeps bytes (Ok x) = keeps bytes x.1
ReadsBy causes keeps bytes (Err (NotJournal d)) = BeginsWith header bytes → ⊥
ReadsBy causes keeps bytes (Err (BadRecord d place)) = causes.spoiled bytes place
ReadsBy causes keeps bytes (Err (BadChain d place stood computed)) = causes.unchained bytes place stood computed
ReadsBy causes keeps bytes (Err (Unlawful d place)) = causes.unlawful bytes place
ReadsBy causes keeps bytes (Err (WrongKind d)) = ⊥
ReadsBy causes keeps bytes (Err (NotEmpty d count)) = ⊥
ReadsBy causes keeps bytes (Err (Disk d)) = Unit {0}
ReadsBy causes keeps bytes (Err (NoMemory d)) = Unit {0}

-- its disk
abbrev pub read_disk : {D X : Type 0} → Result (D × X) (HouseFault D) → D
read_disk (Ok x) = x.0
read_disk (Err f) = fault_disk f

-- what an audit says of it, which stands at a place of a list
abbrev pub said_of : {D X : Type 0} → ℕ → Result (D × X) (HouseFault D) → Result X AuditFault
said_of book (Ok x) = Ok x.1
said_of book (Err (NotJournal d)) = Err (faults.NotJournal book)
said_of book (Err (BadRecord d place)) = Err (faults.BadRecord book place)
said_of book (Err (BadChain d place stood computed)) = Err (faults.BadChain book place stood computed)
said_of book (Err (Unlawful d place)) = Err (faults.Unlawful book place)
said_of book (Err (WrongKind d)) = Err (faults.Unlawful book FIRST_GATE)
said_of book (Err (NotEmpty d count)) = Err (faults.Unlawful book FIRST_GATE)
said_of book (Err (Disk d)) = Err (faults.Disk book)
said_of book (Err (NoMemory d)) = Err faults.NoMemory
