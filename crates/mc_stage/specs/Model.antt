-- What a record of calls comes to.
use Rattle.std.specs.Prelude.{◌≡◌, ℕ, ◌-◌, ◌^◌, ◌≤◌, min, Bool, true, false, ◌&&◌, IsTrue, IsSome, Option, List, [], ◌∷◌, ◌++◌, length, take, Some, replicate, refl}
use Rattle.mc_outside.specs.Bytes.{put}
use Rattle.mc_outside.specs.DiskView.{DiskView, Torn, CutShort}
use Rattle.mc_stage.specs.Lists.{unsynced}
use Rattle.mc_outside.specs.LinkView.{LinkView, Session, on_last, hear, send, ended, fresh, all_sent}

-- one call that was recorded
pub data Entry : Type 0 where
  Put : ℕ → List ℕ → Entry
  Cut : ℕ → Entry
  Sync : Entry
  Take : Entry
  Hear : List ℕ → Entry
  End : Entry
  Send : List ℕ → Entry

-- how things stand after some calls
pub record Model : Type 1 where
  pub contents : List ℕ
  -- what the last sync left
  pub synced : List ℕ
  -- of each byte of the contents whether it is synced
  pub marks : List Bool
  pub leaves : List ℕ → Type 0
  pub sessions : List Session

abbrev pub start : List ℕ → Model
start base = record { contents = base; synced = base; marks = replicate (length base) true; leaves = λ c. c ≡ base; sessions = [] }

abbrev pub step : Entry → Model → Model
step (Put place bytes) m = record m { contents = put place bytes m.contents; marks = unsynced place (length bytes) m.marks; leaves = λ c. (d : List ℕ) × m.leaves d × Torn place (length bytes) d c }
step (Cut size) m = record m { contents = take size m.contents; marks = take size m.marks; leaves = λ c. (d : List ℕ) × m.leaves d × CutShort size d c }
step Sync m = record m { synced = m.contents; marks = replicate (length m.contents) true; leaves = λ c. c ≡ m.contents }
step Take m = record m { sessions = m.sessions ++ fresh ∷ [] }
step (Hear bytes) m = record m { sessions = on_last (hear bytes) m.sessions }
step End m = record m { sessions = on_last ended m.sessions }
step (Send bytes) m = record m { sessions = on_last (send bytes) m.sessions }

abbrev pub run : List Entry → Model → Model
run [] m = m
run (e ∷ es) m = run es (step e m)

pub run-append : (xs ys : List Entry) (m : Model) → ◌≡◌ {1} {A = Model} (run (xs ++ ys) m) (run ys (run xs m))
run-append [] ys m = refl
run-append (x ∷ xs) ys m = run-append xs ys (step x m)

-- whether the last link was read to its end
abbrev pub last_to_end : List Session → Bool
last_to_end [] = false
last_to_end (s ∷ []) = s.to_end
last_to_end (s ∷ t ∷ ss) = last_to_end (t ∷ ss)

-- what a stage holds
pub record Trace : Type 0 where
  pub base : List ℕ
  pub log : List Entry
  pub faults : ℕ
  pub said : List ℕ
  pub readings : Option (List ℕ)
  pub link_faults : ℕ
  pub stands : Bool
  pub over : Bool
  -- the numbers of the links that come through the operator's door
  pub doors : List ℕ

abbrev pub model_at : ℕ → Trace → Model
model_at k t = run (take k t.log) (start t.base)

abbrev pub model : Trace → Model
model t = run t.log (start t.base)

abbrev pub disk_of : Trace → DiskView
disk_of t = record {
  contents = Some (model t).contents;
  moment = length t.log;
  leaves = (model t).leaves;
  pairs = λ from c s. (k : ℕ) × (from ≤ k) × (k ≤ length t.log) × (model_at k t).leaves c × (s ≡ all_sent (model_at k t).sessions);
  faults = min t.faults (2 ^ 64 - 1);
  aside = all_sent (model t).sessions;
}

abbrev pub is_taken : List Session → Bool
is_taken [] = false
is_taken (s ∷ ss) = true

abbrev pub link_of : Trace → LinkView
link_of t = record {
  sessions = Some (model t).sessions;
  said = Some t.said;
  readings = t.readings;
  stands = t.stands && is_taken (model t).sessions;
  at_end = last_to_end (model t).sessions;
  over = t.over;
  faults = min t.link_faults (2 ^ 64 - 1);
  doors = Some t.doors;
}

-- calls of Disk, which leave the links
abbrev pub IsDiskEntry : Entry → Type 0
IsDiskEntry (Put a b) = Unit {0}
IsDiskEntry (Cut n) = Unit {0}
IsDiskEntry Sync = Unit {0}
IsDiskEntry e = ⊥

-- calls of Link, which leave the disk
abbrev pub IsLinkEntry : Entry → Type 0
IsLinkEntry (Put a b) = ⊥
IsLinkEntry (Cut n) = ⊥
IsLinkEntry Sync = ⊥
IsLinkEntry e = Unit {0}

abbrev pub Each : (Entry → Type 0) → List Entry → Type 0
Each P [] = Unit {0}
Each P (e ∷ es) = P e × Each P es

-- Disk alone worked
pub record DiskMoved (a b : Trace) : Type 0 where
  pub base : b.base ≡ a.base
  pub more : List Entry
  pub log : b.log ≡ a.log ++ more
  pub kind : Each IsDiskEntry more
  pub faults : a.faults ≤ b.faults
  pub said : b.said ≡ a.said
  pub readings : b.readings ≡ a.readings
  pub link_faults : b.link_faults ≡ a.link_faults
  pub stands : b.stands ≡ a.stands
  pub over : b.over ≡ a.over
  pub doors : b.doors ≡ a.doors

-- Link alone worked
pub record LinkMoved (a b : Trace) : Type 0 where
  pub base : b.base ≡ a.base
  pub more : List Entry
  pub log : b.log ≡ a.log ++ more
  pub kind : Each IsLinkEntry more
  pub faults : b.faults ≡ a.faults
  pub link_faults : a.link_faults ≤ b.link_faults
  pub over : IsTrue a.over → IsTrue b.over
  pub readings : IsSome b.readings → IsSome a.readings

-- nothing but the count of faults changed
abbrev pub DiskFailed : Trace → Trace → Type 0
DiskFailed a b = b ≡ record a { faults = b.faults }

abbrev pub LinkFailed : Trace → Trace → Type 0
LinkFailed a b = b ≡ record a { link_faults = b.link_faults }

-- these contents, synced, and no call made
abbrev pub untouched : List ℕ → Trace
untouched contents = record { base = contents; log = []; faults = 0; said = []; readings = Some []; link_faults = 0; stands = false; over = false; doors = [] }
