-- What founding and opening hand back, and what a crash in them leaves.
use Rattle.std.specs.Prelude.{◌≡◌, ℕ, ◌≤◌, max, List, length, Result, Ok, Err}
use Rattle.mc_outside.specs.Bytes.{BeginsWith}
use Rattle.mc_outside.specs.DiskView.{DiskView}
use Rattle.scrip_journal.specs.Layout.{header}
use Rattle.scrip_journal.specs.States.{AtRest, Reading}
use Rattle.scrip_journal.specs.declared.fault.OpenFault.{OpenFault}
use Rattle.scrip_journal.specs.declared.fault.OpenFault.TheVariants.{NotJournal, Disk, NoMemory}
use Rattle.mc_records.specs.declared.sizes.TheConstants.{EMPTY_JOURNAL}

-- the disk of a fault
abbrev pub fault_disk : {D : Type 0} → OpenFault D → D
fault_disk (NotJournal d) = d
fault_disk (Disk d) = d
fault_disk (NoMemory d) = d

-- the disk that comes back from founding, whatever is answered
abbrev pub found_disk : {D : Type 0} → Result (AtRest D) (OpenFault D) → D
found_disk (Ok j) = j.disk
found_disk (Err f) = fault_disk f

-- and from opening
abbrev pub open_disk : {D : Type 0} → Result (Reading D) (OpenFault D) → D
open_disk (Ok r) = r.disk
open_disk (Err f) = fault_disk f

-- P, Q or R of the disk, by the fault
abbrev pub MatchOpenFault : {D : Type 0} → OpenFault D → (D → Type 0) → (D → Type 0) → (D → Type 0) → Type 0
MatchOpenFault (NotJournal d) P Q R = P d
MatchOpenFault (Disk d) P Q R = Q d
MatchOpenFault (NoMemory d) P Q R = R d

-- a crash pair whose image has no more than nine bytes, or than one that a crash before could have left,
-- with nothing sent
abbrev pub NoLonger : DiskView → List ℕ → List ℕ → Type 0
NoLonger before c s = ((d : List ℕ) × before.leaves d × (length c ≤ max EMPTY_JOURNAL (length d))) × (s ≡ before.aside)

-- by the bytes of the disk: a journal begins with the header, and what is none does not
abbrev pub OpensBy : {D : Type 0} → List ℕ → Result (Reading D) (OpenFault D) → Type 0
OpensBy bytes (Ok r) = BeginsWith header bytes
OpensBy bytes (Err (NotJournal d)) = BeginsWith header bytes → ⊥
OpensBy bytes (Err (Disk d)) = Unit {0}
OpensBy bytes (Err (NoMemory d)) = Unit {0}
