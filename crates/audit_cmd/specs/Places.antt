-- What reading the book at a place of a list answers.
use Rattle.std.specs.Prelude.{◌≡◌, ℕ, List, Some, IfErr, slice_get, slice_set, Result, Ok, Err}
use Rattle.mc_outside.specs.Bytes.{BeginsWith, Rose}
use Rattle.mc_outside.specs.DiskView.{DiskView, OnlyRead}
use Rattle.scrip_journal.specs.Layout.{header}
use Rattle.audit_cmd.specs.declared.fault.AuditFault.{AuditFault}
use Rattle.audit_cmd.specs.declared.fault.AuditFault.TheVariants as faults
use Rattle.audit_cmd.specs.OneBook.{Causes}
use Rattle.audit_cmd.specs.Books.{EndsReading}

-- what is found of the book at a place by its bytes, of which this is kept
abbrev pub FindsBook : {X : Type 0} → Causes → (List ℕ → X → Type 0) → ℕ → List ℕ → Result X AuditFault → Type 0
FindsBook causes keeps place bytes (Ok kept) = keeps bytes kept
FindsBook causes keeps place bytes (Err (faults.NotJournal book)) = (book ≡ place) × (BeginsWith header bytes → ⊥)
FindsBook causes keeps place bytes (Err (faults.BadRecord book at)) = (book ≡ place) × causes.spoiled bytes at
FindsBook causes keeps place bytes (Err (faults.BadChain book at stood computed)) = (book ≡ place) × causes.unchained bytes at stood computed
FindsBook causes keeps place bytes (Err (faults.Unlawful book at)) = (book ≡ place) × causes.unlawful bytes at
FindsBook causes keeps place bytes (Err (faults.Disk book)) = book ≡ place
FindsBook causes keeps place bytes (Err faults.NoMemory) = Unit {0}
FindsBook causes keeps place bytes (Err _) = ⊥

-- the disk is told to have failed where its count rose, and it stayed else
abbrev pub CountsBook : {X : Type 0} → ℕ → Result X AuditFault → ℕ → ℕ → Type 0
CountsBook place (Err (faults.Disk book)) before after = (book ≡ place) × Rose before after
CountsBook place _ before after = after ≡ before

-- The disk at a place was read, which is there still, and this was found of its book.
pub record ReadsAt {D X : Type 0} (view : D → DiskView) (moved : D → D → Type 0) (causes : Causes) (keeps : List ℕ → X → Type 0) (place : ℕ) (before after : List D) (found : Result X AuditFault) : Type 0 where
  pub old : D
  pub new : D
  pub there : slice_get before place ≡ Some old
  pub put : after ≡ slice_set before place new
  pub read : OnlyRead (view old) (view new)
  pub moves : moved old new
  pub told : (bytes : List ℕ) → (view old).contents ≡ Some bytes → FindsBook causes keeps place bytes found
  pub count : CountsBook place found (view old).faults (view new).faults
  pub at : IfErr found (EndsReading (λ book. book ≡ place))
