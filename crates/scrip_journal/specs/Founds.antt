-- On which disks a book is founded, what founding it answers, and what a crash in it leaves.
use Rattle.std.specs.Prelude.{◌≡◌, ◌⊎◌, ℕ, ◌<◌, ◌≤◌, List, [], ◌∷◌, length, Some, Result, Ok, Err}
use Rattle.mc_outside.specs.Bytes.{Rose}
use Rattle.mc_outside.specs.DiskView.{DiskView, OnlyRead}
use Rattle.mc_records.specs.Entry.{Entry}
use Rattle.scrip_journal.specs.Layout.{Encodes}
use Rattle.scrip_journal.specs.States.{AtRest, IsJournal}
use Rattle.scrip_journal.specs.declared.fault.HouseFault.{HouseFault}
use Rattle.scrip_journal.specs.declared.fault.HouseFault.TheVariants.{NotJournal, BadRecord, BadChain, Unlawful, WrongKind, NotEmpty, Disk, NoMemory}
use Rattle.mc_records.specs.declared.sizes.TheConstants.{EMPTY_JOURNAL}

-- The disk may be founded on: its bytes encode no entries, or are nine at most.
abbrev pub IsFree : List ℕ → Type 0
IsFree bytes = Encodes [] bytes ⊎ (length bytes ≤ EMPTY_JOURNAL)

-- The disk has so many bytes, more than nine, which don't encode the empty history.
pub record IsTaken (bytes : List ℕ) (count : ℕ) : Type 0 where
  pub count_is : count ≡ length bytes
  pub many : EMPTY_JOURNAL < count
  pub other : Encodes [] bytes → ⊥

-- the disk may be founded on, where it tells its bytes
abbrev pub WasFree : DiskView → Type 0
WasFree d = (bytes : List ℕ) → d.contents ≡ Some bytes → IsFree bytes

-- the bytes of the disk, where it tells them, are nine at most, and don't encode the empty history
abbrev pub NeedsEmptying : DiskView → Type 0
NeedsEmptying d = (bytes : List ℕ) → d.contents ≡ Some bytes → (length bytes ≤ EMPTY_JOURNAL) × (Encodes [] bytes → ⊥)

-- An image that a crash before could have left; or one of at most nine bytes, where the disk has to be written anew.
-- A disk that encodes the empty history is used as it is.
abbrev pub EmptiedImage : DiskView → List ℕ → Type 0
EmptiedImage before c = ((length c ≤ EMPTY_JOURNAL) × NeedsEmptying before) ⊎ before.leaves c

-- a crash pair of such an image, with nothing sent
abbrev pub ShortNoOutput : DiskView → List ℕ → List ℕ → Type 0
ShortNoOutput before c s = EmptiedImage before c × (s ≡ before.aside)

-- Such an image, or one that encodes no entries or this one alone, where the disk may be founded on. Of any other
-- disk each image is one that a crash before could have left.
abbrev pub FoundImage : DiskView → Entry → List ℕ → Type 0
FoundImage before e c = EmptiedImage before c ⊎ (WasFree before × (Encodes [] c ⊎ Encodes (e ∷ []) c))

-- a crash pair of such an image, with nothing sent
abbrev pub FoundNoOutput : DiskView → Entry → List ℕ → List ℕ → Type 0
FoundNoOutput before e c s = FoundImage before e c × (s ≡ before.aside)

-- ---- what is answered

-- the disk of a fault
abbrev pub fault_disk : {D : Type 0} → HouseFault D → D
fault_disk (NotJournal d) = d
fault_disk (BadRecord d place) = d
fault_disk (BadChain d place stood computed) = d
fault_disk (Unlawful d place) = d
fault_disk (WrongKind d) = d
fault_disk (NotEmpty d count) = d
fault_disk (Disk d) = d
fault_disk (NoMemory d) = d

-- the disk that comes back, whatever founding a book answers
abbrev pub book_disk : {D : Type 0} → Result (AtRest D) (HouseFault D) → D
book_disk (Ok j) = j.disk
book_disk (Err f) = fault_disk f

-- What is answered by the bytes of the disk: a free one is a journal of these entries now, and another is told to
-- be taken.
abbrev pub FoundsBookBy : {D : Type 0} → (D → DiskView) → List Entry → List ℕ → Result (AtRest D) (HouseFault D) → Type 0
FoundsBookBy view h bytes (Ok j) = IsJournal view j h × IsFree bytes
FoundsBookBy view h bytes (Err (NotEmpty d count)) = IsTaken bytes count
FoundsBookBy view h bytes (Err (Disk d)) = Unit {0}
FoundsBookBy view h bytes (Err (NoMemory d)) = Unit {0}
FoundsBookBy view h bytes (Err _) = ⊥

-- The count of faults rose where the disk failed, and stayed else. No other fault comes but that the disk
-- has bytes already and that memory is refused.
abbrev pub CountsBy : {D A : Type 0} → Result A (HouseFault D) → ℕ → ℕ → Type 0
CountsBy (Ok x) before after = after ≡ before
CountsBy (Err (NotEmpty d count)) before after = after ≡ before
CountsBy (Err (NoMemory d)) before after = after ≡ before
CountsBy (Err (Disk d)) before after = Rose before after
CountsBy (Err _) before after = ⊥

-- Nothing is written where the disk is taken or memory is refused, nor where the disk failed and its bytes are told
-- and can't be founded on.
abbrev pub ReadsOnly : {D A : Type 0} → (D → DiskView) → D → Result A (HouseFault D) → Type 0
ReadsOnly view disk (Err (NotEmpty d count)) = OnlyRead (view disk) (view d)
ReadsOnly view disk (Err (NoMemory d)) = OnlyRead (view disk) (view d)
ReadsOnly view disk (Err (Disk d)) = (x : List ℕ) → (view disk).contents ≡ Some x → (IsFree x → ⊥) → OnlyRead (view disk) (view d)
ReadsOnly view disk _ = Unit {0}

-- ---- its steps

-- a disk of nine bytes at most is a journal without entries now; another is told to have more
abbrev pub ClearsSmall : {D : Type 0} → (D → DiskView) → List ℕ → Result (AtRest D) (HouseFault D) → Type 0
ClearsSmall view bytes (Ok j) = IsJournal view j [] × (length bytes ≤ EMPTY_JOURNAL)
ClearsSmall view bytes (Err (NotEmpty d count)) = (count ≡ length bytes) × (EMPTY_JOURNAL < count)
ClearsSmall view bytes (Err (Disk d)) = Unit {0}
ClearsSmall view bytes (Err (NoMemory d)) = Unit {0}
ClearsSmall view bytes (Err _) = ⊥

-- the entry stands in the journal, or the disk failed and no other fault came
abbrev pub EntersFirst : {D : Type 0} → (D → DiskView) → Entry → Result (AtRest D) (HouseFault D) → Type 0
EntersFirst view e (Ok j) = IsJournal view j (e ∷ [])
EntersFirst view e (Err (Disk d)) = Unit {0}
EntersFirst view e (Err _) = ⊥

-- no fault that leaves the disk unwritten
abbrev pub IsOfWriting : {D A : Type 0} → Result A (HouseFault D) → Type 0
IsOfWriting (Err (NotEmpty d count)) = ⊥
IsOfWriting (Err (NoMemory d)) = ⊥
IsOfWriting _ = Unit {0}
