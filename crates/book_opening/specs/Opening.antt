-- What opening a book answers.
use Rattle.std.specs.Prelude.{◌≡◌, ℕ, ◌<◌, true, false, Bool, List, [], ◌∷◌, Some, None, Result, Ok, Err}
use Rattle.mc_outside.specs.Bytes.{BeginsWith, Rose}
use Rattle.mc_outside.specs.DiskView.{DiskView, OnlyRead}
use Rattle.mc_records.specs.Entry.{Entry}
use Rattle.mc_records.specs.Following.{AllFollowBy}
use Rattle.mc_requests.specs.declared.limits.TheConstants.Limits.{MOST_JOURNAL}
use Rattle.scrip_journal.specs.Layout.{header, Encodes}
use Rattle.scrip_journal.specs.States.{AtRest, Reading, IsJournal, IsReading, MayGoOn}
use Rattle.scrip_journal.specs.Founds.{fault_disk}
use Rattle.scrip_journal.specs.Causes.{FoundsSite, IsOfOtherKind, SpoilsAt, UnchainsAt, IsUnlawfulAt, IsOfOther}
use Rattle.scrip_journal.specs.declared.cursor.TheConstants.{FIRST_GATE}
use Rattle.scrip_journal.specs.declared.ending.Ending.TheVariants.{Closed}
use Rattle.scrip_journal.specs.declared.ending.ReplayFault.TheVariants as faults
use Rattle.scrip_journal.specs.declared.fault.HouseFault.{HouseFault}
use Rattle.scrip_journal.specs.declared.fault.HouseFault.TheVariants.{NotJournal, BadRecord, BadChain, Unlawful, WrongKind, NotEmpty, Disk, NoMemory}
use Rattle.book_opening.specs.declared.opening.Halt.{Halt}
use Rattle.book_opening.specs.declared.opening.Halt.TheVariants as halts
use Rattle.book_opening.specs.Opener.{OpenerView}

-- the disk that comes back, whatever is answered
abbrev pub opened_disk : {D L : Type 0} → Result (AtRest D × L) (HouseFault D) → D
opened_disk (Ok x) = x.0.disk
opened_disk (Err f) = fault_disk f

-- The count of faults rose where the disk failed, and stayed else. No book that is opened is told to
-- have bytes already.
abbrev pub CountedBy : {D A : Type 0} → Result A (HouseFault D) → ℕ → ℕ → Type 0
CountedBy (Err (Disk d)) before after = Rose before after
CountedBy (Err (NotEmpty d count)) before after = ⊥
CountedBy _ before after = after ≡ before

-- the entries begin with one that founds a site of one of these kinds
abbrev pub AreOfSite : (ℕ → Type 0) → List Entry → Type 0
AreOfSite kinds [] = ⊥
AreOfSite kinds (e ∷ es) = FoundsSite kinds e

-- What was learned of these entries: the learner holds them, each may follow those before it, and they are
-- those of a site of a kind that is opened.
pub record HasLearned {L : Type 0} (opener : OpenerView L) (learner : L) (h : List Entry) : Type 0 where
  pub holds' : opener.holds learner h
  pub follow : AllFollowBy opener.may [] h
  pub of_site : AreOfSite opener.kinds h

-- The bytes encode entries, the journal has them, and the learner learned them.
pub record OpenedAs {D L : Type 0} (view : D → DiskView) (opener : OpenerView L) (bytes : List ℕ) (j : AtRest D) (learner : L) : Type 0 where
  pub history : List Entry
  pub of_bytes : Encodes history bytes
  pub journal : IsJournal view j history
  pub learned : HasLearned opener learner history

-- what is answered by the bytes of the disk
abbrev pub OpensBook : {D L : Type 0} → (D → DiskView) → OpenerView L → List ℕ → Result (AtRest D × L) (HouseFault D) → Type 0
OpensBook view opener bytes (Ok x) = OpenedAs view opener bytes x.0 x.1
OpensBook view opener bytes (Err (NotJournal d)) = BeginsWith header bytes → ⊥
OpensBook view opener bytes (Err (BadRecord d place)) = SpoilsAt opener.may opener.kinds bytes place
OpensBook view opener bytes (Err (BadChain d place stood computed)) = UnchainsAt opener.may opener.kinds bytes place stood computed
OpensBook view opener bytes (Err (Unlawful d place)) = IsUnlawfulAt opener.may opener.kinds bytes place
OpensBook view opener bytes (Err (WrongKind d)) = IsOfOther opener.kinds bytes
OpensBook view opener bytes (Err (NotEmpty d count)) = ⊥
OpensBook view opener bytes (Err (Disk d)) = Unit {0}
OpensBook view opener bytes (Err (NoMemory d)) = Unit {0}

-- ---- its steps

-- the reading went on, and may still do so
pub record ReadOn {D : Type 0} (view : D → DiskView) (moved : D → D → Type 0) (old new : Reading D) : Type 0 where
  pub disk_moved : moved old.disk new.disk
  pub only_read : OnlyRead (view old.disk) (view new.disk)
  pub limit : new.limit ≡ old.limit

-- the entries that were read were learned
abbrev pub LearnedSome : {D L : Type 0} → (D → DiskView) → OpenerView L → Reading D → L → Type 0
LearnedSome view opener r learner = (h : List Entry) × IsReading view r h × HasLearned opener learner h

-- the entries of the bytes were learned
abbrev pub LearnedAll : {D L : Type 0} → (D → DiskView) → OpenerView L → List ℕ → Reading D → L → Type 0
LearnedAll view opener bytes r learner = (h : List Entry) × Encodes h bytes × IsReading view r h × HasLearned opener learner h

-- why a book was not learned, by its bytes
abbrev pub HaltsBy : {L : Type 0} → OpenerView L → List ℕ → Halt → Type 0
HaltsBy opener bytes (halts.Reading (faults.BadRecord place)) = SpoilsAt opener.may opener.kinds bytes place
HaltsBy opener bytes (halts.Reading (faults.BadChain place stood computed)) = UnchainsAt opener.may opener.kinds bytes place stood computed
HaltsBy opener bytes (halts.Reading faults.Disk) = Unit {0}
HaltsBy opener bytes (halts.Unlawful place) = IsUnlawfulAt opener.may opener.kinds bytes place
HaltsBy opener bytes halts.WrongKind = IsOfOther opener.kinds bytes
HaltsBy opener bytes halts.NoMemory = Unit {0}

-- the count of faults rose where the disk failed, and stayed else
abbrev pub HaltCounts : {A : Type 0} → Result A Halt → ℕ → ℕ → Type 0
HaltCounts (Err (halts.Reading faults.Disk)) before after = Rose before after
HaltCounts _ before after = after ≡ before

-- the fault with the disk that comes back
abbrev pub fault_with : {D : Type 0} → D → Halt → HouseFault D
fault_with d (halts.Reading (faults.BadRecord place)) = BadRecord d place
fault_with d (halts.Reading (faults.BadChain place stood computed)) = BadChain d place stood computed
fault_with d (halts.Reading faults.Disk) = Disk d
fault_with d (halts.Unlawful place) = Unlawful d place
fault_with d halts.WrongKind = WrongKind d
fault_with d halts.NoMemory = NoMemory d

-- what comes of the first entry
abbrev pub BeginsBy : {L : Type 0} → OpenerView L → Entry → Result L Halt → Type 0
BeginsBy opener e (Ok learner) = HasLearned opener learner (e ∷ [])
BeginsBy opener e (Err (halts.Reading fault)) = ⊥
BeginsBy opener e (Err (halts.Unlawful place)) = (place ≡ FIRST_GATE) × (opener.may [] e → ⊥) × (IsOfOtherKind opener.kinds e → ⊥)
BeginsBy opener e (Err halts.WrongKind) = IsOfOtherKind opener.kinds e
BeginsBy opener e (Err halts.NoMemory) = Unit {0}

-- what comes of the next entry: it is learned, or there is none, or the book is halted
abbrev pub LearnsNext : {D L : Type 0} → (D → DiskView) → OpenerView L → List ℕ → Reading D → L → Result Bool Halt → Type 0
LearnsNext view opener bytes r learner (Ok true) = LearnedSome view opener r learner
LearnsNext view opener bytes r learner (Ok false) = LearnedAll view opener bytes r learner
LearnsNext view opener bytes r learner (Err halt) = HaltsBy opener bytes halt

-- Where an entry was learned the next gate came further, and the reading may go on; where there is none it ended.
abbrev pub GoesFurther : {D : Type 0} → Reading D → Result Bool Halt → Reading D → Type 0
GoesFurther old (Ok true) new = (old.gate < new.gate) × (new.gate < MOST_JOURNAL) × (new.ended ≡ None) × MayGoOn new
GoesFurther old (Ok false) new = new.ended ≡ Some Closed
GoesFurther old (Err halt) new = Unit {0}
