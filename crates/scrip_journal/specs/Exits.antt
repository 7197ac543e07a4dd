-- What calls hand back, and what a crash in them leaves.
use Rattle.std.specs.Prelude.{◌≡◌, ◌⊎◌, ℕ, ◌+◌, ◌<◌, ◌≤◌, List, [], ◌∷◌, ◌++◌, length, Result, Ok, Err}
use Rattle.mc_outside.specs.Bytes.{Told}
use Rattle.mc_outside.specs.DiskView.{DiskView}
use Rattle.mc_records.specs.Entry.{Entry, payload}
use Rattle.mc_records.specs.Sizes.{framed_size, tail_bytes}
use Rattle.scrip_journal.specs.Layout.{Encodes}
use Rattle.scrip_journal.specs.States.{AtRest, WithNext}
use Rattle.scrip_journal.specs.declared.journal.StageFault.{StageFault}
use Rattle.scrip_journal.specs.declared.journal.StageFault.TheVariants.{Full, Disk}

-- the disk that comes back from staging, whatever is answered
abbrev pub staged_disk : {D : Type 0} → Result (WithNext D) (StageFault D) → D
staged_disk (Ok s) = s.disk
staged_disk (Err (Full j)) = j.disk
staged_disk (Err (Disk d)) = d

-- and from opening a gate, which gives a number, or from finding a chain
abbrev pub opened_disk : {D X : Type 0} → Result (AtRest D × X) D → D
opened_disk (Ok r) = r.0.disk
opened_disk (Err d) = d

-- and from staging an entry and opening its gate
abbrev pub written_disk : {D : Type 0} → Result (AtRest D × ℕ) (StageFault D) → D
written_disk (Ok w) = w.0.disk
written_disk (Err (Full j)) = j.disk
written_disk (Err (Disk d)) = d

-- P of the journal that comes back, Q of the disk of a halted one
abbrev pub MatchStageFault : {D : Type 0} → StageFault D → (AtRest D → Type 0) → (D → Type 0) → Type 0
MatchStageFault (Full j) P Q = P j
MatchStageFault (Disk d) P Q = Q d

-- An entry is refused room where the journal needs more bytes for it than the limit; any other answer comes where
-- it does not.
abbrev pub RoomBy : {D A : Type 0} → Result A (StageFault D) → ℕ → ℕ → Type 0
RoomBy (Err (Full j)) limit needed = limit < needed
RoomBy _ limit needed = needed ≤ limit

-- how many bytes the journal has with one entry more
abbrev pub size_with : {D : Type 0} → AtRest D → Entry → ℕ
size_with j e = j.size + framed_size (length (payload e)) (tail_bytes j.switched)

-- a crash pair that encodes these entries, with nothing sent
abbrev pub EncodesNoOutput : List Entry → List ℕ → List ℕ → List ℕ → Type 0
EncodesNoOutput h aside c s = Encodes h c × (s ≡ aside)

-- with the new entry or without it, with nothing sent
abbrev pub EitherNoOutput : List Entry → Entry → List ℕ → List ℕ → List ℕ → Type 0
EitherNoOutput h e aside c s = (Encodes h c ⊎ Encodes (h ++ e ∷ []) c) × (s ≡ aside)

-- the bytes of the disk, where it tells them, are no fewer than before
abbrev pub IsUncut : DiskView → DiskView → Type 0
IsUncut before after = Told (λ old new. length old ≤ length new) before.contents after.contents
