-- What the calls of a journal that is read answer.
use Rattle.std.specs.Prelude.{◌≡◌, ◌⊎◌, ℕ, ◌+◌, ◌<◌, ◌≤◌, Bool, ◌||◌, List, [], ◌∷◌, ◌++◌, length, take, drop, true, Option, Some, None, Result, Ok, Err}
use Rattle.std.specs.List.{AllByRecursion}
use Rattle.std.specs.Int.{w32, to_be_bytes}
use Rattle.mc_outside.specs.Bytes.{BeginsWith, Rose}
use Rattle.mc_outside.specs.DiskView.{DiskView, OnlyRead}
use Rattle.mc_records.specs.Entry.{Entry, Fits, payload}
use Rattle.mc_records.specs.Chains.{chain, has_switch, is_switch}
use Rattle.mc_records.specs.Forms.{entry_of}
use Rattle.mc_records.specs.Sizes.{tail_by, tail_bytes, size}
use Rattle.scrip_journal.specs.Layout.{body, next_of, Encodes, IsSpoiled, IsUnchained}
use Rattle.scrip_journal.specs.States.{AtRest, Reading, IsReading, EndedBy, IsChainOf, known_chain, chain_with}
use Rattle.scrip_journal.specs.Answers.{Given, answer_of, unless_failed}
use Rattle.scrip_journal.specs.declared.ending.Ending.{Ending}
use Rattle.scrip_journal.specs.declared.ending.Ending.TheVariants.{Closed, Spoiled, Unchained, Failed}
use Rattle.scrip_journal.specs.declared.ending.ReplayFault.{ReplayFault}
use Rattle.scrip_journal.specs.declared.ending.ReplayFault.TheVariants.{BadRecord, BadChain, Disk}
use Rattle.scrip_journal.specs.declared.replay.Found.{Found}
use Rattle.mc_requests.specs.declared.limits.TheConstants.Limits.{MOST_JOURNAL}
use Rattle.scrip_journal.specs.declared.cursor.TheConstants.{FIRST_GATE}
use Rattle.mc_records.specs.declared.sizes.TheConstants.{PAYLOAD_BOUND}

-- a reading goes on behind an entry, and has ended else
abbrev pub ending_of : Given → Option Ending
ending_of (Ok None) = Some Closed
ending_of (Ok (Some x)) = None
ending_of (Err (BadRecord place)) = Some (Spoiled place)
ending_of (Err (BadChain place stood computed)) = Some (Unchained place stood computed)
ending_of (Err Disk) = Some Failed

-- A payload was found behind these entries and an open gate, in these bytes. Where an entry has it, the reading is behind
-- that entry too, with the chain of those before it where it is a Switch; where it is malformed, the bytes can't stand from
-- there on.
pub record Finds {D : Type 0} (view : D → DiskView) (h : List Entry) (bytes : List ℕ) (new : Reading D) : Type 0 where
  pub behind : List ℕ
  pub opened : bytes ≡ body h ++ 1 ∷ behind
  pub entry : (e : Entry) → Fits e → new.last ≡ payload e → IsReading view new (h ++ e ∷ []) × (is_switch e ≡ true → new.before ≡ chain h)
  pub malformed : (fault : ℕ) → entry_of new.last ≡ Err fault → IsSpoiled h bytes (new.at + fault)

-- the payload found last is malformed, and this tells where
abbrev pub IsMalformed : {D : Type 0} → Reading D → ReplayFault → Type 0
IsMalformed r fault = (place : ℕ) × (entry_of r.last ≡ Err place) × (fault ≡ BadRecord (r.at + place))

-- A reading of some bytes behind these entries: none where the bytes encode them, and the payload of the next one
-- where it is there; a bad record where they can't stand, a bad chain where the next one has another.
abbrev pub ReadsOn : {D : Type 0} → (D → DiskView) → List Entry → List ℕ → ℕ → Given → Reading D → Type 0
ReadsOn view h bytes gate (Ok None) new = Encodes h bytes × IsReading view new h
ReadsOn view h bytes gate (Ok (Some place)) new = (place ≡ gate) × Finds view h bytes new
ReadsOn view h bytes gate (Err (BadRecord place)) new = IsSpoiled h bytes place × IsReading view new h
ReadsOn view h bytes gate (Err (BadChain place stood computed)) new = IsUnchained h bytes place stood computed × IsReading view new h
ReadsOn view h bytes gate (Err Disk) new = IsReading view new h

-- the count of faults rose where the disk failed, and stayed else
abbrev pub CausedBy : Given → ℕ → ℕ → Type 0
CausedBy (Err Disk) before after = Rose before after
CausedBy _ before after = after ≡ before

-- what one call of `next_record` answers and does
pub record Advanced {D : Type 0} (view : D → DiskView) (moved : D → D → Type 0) (old : Reading D) (given : Given) (new : Reading D) : Type 0 where
  pub disk_moved : moved old.disk new.disk
  pub only_read : OnlyRead (view old.disk) (view new.disk)
  -- what has ended answers the same again, and stays
  pub again : (ending : Ending) → old.ended ≡ Some ending → (given ≡ answer_of ending) × (new ≡ old)
  pub ended : new.ended ≡ ending_of given
  pub limit : new.limit ≡ old.limit
  -- the next gate comes behind the entry that was read
  pub rises : (place : ℕ) → given ≡ Ok (Some place) → (old.gate < new.gate) × (new.gate < MOST_JOURNAL)
  -- one payload more was found
  pub counted : (place : ℕ) → given ≡ Ok (Some place) → new.entries ≡ old.entries + 1
  -- and stays where there is none
  pub stays : given ≡ Ok None → new.gate ≡ old.gate
  pub still : given ≡ Ok None → new.switched ≡ old.switched
  pub cause : old.ended ≡ None → CausedBy given (view old.disk).faults (view new.disk).faults
  pub reads : (h : List Entry) (r : IsReading view old h) → ReadsOn view h r.bytes old.gate given new

-- ---- its steps

-- only the disk and the bytes held may have changed
pub record SameBut {D : Type 0} (old new : Reading D) : Type 0 where
  pub gate : new.gate ≡ old.gate
  pub entries : new.entries ≡ old.entries
  pub limit : new.limit ≡ old.limit
  pub switched : new.switched ≡ old.switched
  pub chain : new.chain ≡ old.chain
  pub ended : new.ended ≡ old.ended

-- the bytes held are those of the disk, from the gate on
abbrev pub HeldOf : {D : Type 0} → List ℕ → Reading D → Type 0
HeldOf bytes r = BeginsWith r.held (drop r.gate bytes)

-- the disk was read, and bytes that are held now were put behind those held before
pub record ReadAhead {D : Type 0} (view : D → DiskView) (old new : Reading D) : Type 0 where
  pub same : SameBut old new
  pub only_read : OnlyRead (view old.disk) (view new.disk)
  pub more : BeginsWith old.held new.held
  pub held : (bytes : List ℕ) → (view old.disk).contents ≡ Some bytes → HeldOf bytes old → HeldOf bytes new

-- all bytes of the disk are held, from the gate on
abbrev pub AllHeld : {D : Type 0} → (D → DiskView) → Reading D → Reading D → Type 0
AllHeld view old new = (bytes : List ℕ) → (view old.disk).contents ≡ Some bytes → HeldOf bytes old → drop new.gate bytes ≡ new.held

-- the disk ended before so many bytes were held, or failed
abbrev pub IsCut : {D : Type 0} → (D → DiskView) → Reading D → Reading D → ℕ → Ending → Type 0
IsCut view old new count Closed = ⊥
IsCut view old new count (Spoiled place) = (length new.held < count) × (place ≡ new.gate + length new.held) × AllHeld view old new
IsCut view old new count (Unchained place stood computed) = ⊥
IsCut view old new count Failed = Unit {0}

-- the count of faults rose where the disk failed, and stayed else
abbrev pub FaultsBy : {X : Type 0} → Result X Ending → ℕ → ℕ → Type 0
FaultsBy (Err Failed) before after = Rose before after
FaultsBy _ before after = after ≡ before

-- the reading ends so, by what comes at the gate
abbrev pub EndsHere : {D : Type 0} → (D → DiskView) → Reading D → Ending → Type 0
EndsHere view r ending = (h : List Entry) (bytes : List ℕ) → (view r.disk).contents ≡ Some bytes → r.gate ≡ length (body h) → r.switched ≡ has_switch h → IsChainOf r.chain h → HeldOf bytes r → EndedBy (Some ending) (next_of h (drop r.gate bytes))

-- From the gate at this place on an open gate is held, and a payload of this length, which may be malformed; where a
-- Switch stands, there may be room for its chain.
pub record IsPayload (n : ℕ) (switched : Bool) (gate : ℕ) (held : List ℕ) : Type 0 where
  pub bytes : List ℕ
  pub length_is : length bytes ≡ n
  pub short : n < PAYLOAD_BOUND
  pub rest : List ℕ
  pub shape : held ≡ 1 ∷ (to_be_bytes w32 n ++ (bytes ++ rest))
  pub within : gate + n + tail_bytes switched + 6 ≤ MOST_JOURNAL

-- A reading that ends so behind this payload, whose first byte has this place, ends so: there, where the payload is
-- malformed, unless the disk failed.
abbrev pub EndsBehind : List ℕ → ℕ → Ending → Ending → Type 0
EndsBehind bytes place behind ending =
    ((e : Entry) × Fits e × (bytes ≡ payload e) × (ending ≡ behind)) ⊎ ((fault : ℕ) × (entry_of bytes ≡ Err fault) × (ending ≡ unless_failed behind (place + fault)))

-- The chain that is computed of a payload of this length that is held, where that before it is known, and which stands
-- behind it where a Switch stands.
abbrev pub IsTold : {D : Type 0} → ℕ → Reading D → Option (List ℕ) → Type 0
IsTold n r computed = (computed ≡ chain_with r.chain (take n (drop 5 r.held))) × (n + 5 + tail_bytes r.switched ≤ length r.held) × (take (tail_bytes r.switched) (drop (n + 5) r.held) ≡ tail_by r.switched (known_chain computed))

-- From the gate at this place on an open gate is held, and a payload, which may be malformed, with its chain where a Switch
-- stands.
pub record IsFrame (f : Found) (switched : Bool) (before : Option (List ℕ)) (gate : ℕ) (held : List ℕ) : Type 0 where
  pub bytes : List ℕ
  pub length_is : length bytes ≡ f.bytes
  pub short : f.bytes < PAYLOAD_BOUND
  pub switch_is : (e : Entry) → bytes ≡ payload e → f.switches ≡ is_switch e
  pub chain_is : f.chain ≡ chain_with before bytes
  pub rest : List ℕ
  pub shape : held ≡ 1 ∷ (to_be_bytes w32 f.bytes ++ (bytes ++ (tail_by switched (known_chain f.chain) ++ rest)))
  pub within : gate + f.bytes + tail_bytes switched + 6 ≤ MOST_JOURNAL

-- how many bytes an entry of this payload has up to the next gate
abbrev pub frame_size : Found → Bool → ℕ
frame_size f switched = f.bytes + 5 + tail_bytes switched

-- The disk was read, from the gate on or once more up to it. The reading stands at this gate still, behind the same
-- entries; more of their chain may be known.
pub record LookedOn {D : Type 0} (view : D → DiskView) (old new : Reading D) : Type 0 where
  pub gate : new.gate ≡ old.gate
  pub entries : new.entries ≡ old.entries
  pub limit : new.limit ≡ old.limit
  pub switched : new.switched ≡ old.switched
  pub ended : new.ended ≡ old.ended
  pub only_read : OnlyRead (view old.disk) (view new.disk)
  pub reading : (h : List Entry) → IsReading view old h → IsReading view new h

-- the reading ends so, by what comes behind the entries that were read
abbrev pub EndsReading : {D : Type 0} → (D → DiskView) → Reading D → Ending → Type 0
EndsReading view r ending = (h : List Entry) (is : IsReading view r h) → EndedBy (Some ending) (next_of h is.rest)

-- the entry was taken off the front of the bytes held, and its payload is the one found last
abbrev pub TookEntry : {D : Type 0} → Reading D → Found → ℕ → Reading D → Type 0
TookEntry old f gate new =
    (gate ≡ old.gate) × ((frame : IsFrame f old.switched old.chain old.gate old.held) → new.last ≡ frame.bytes)
    × (new ≡ record old { gate = old.gate + frame_size f old.switched; entries = old.entries + 1; switched = old.switched || f.switches; chain = f.chain; before = known_chain old.chain; held = drop (frame_size f old.switched) old.held; last = new.last; at = old.gate + 5 })

-- the eight bytes of the header were taken off, and all else is as it was
pub record FoundHeader {D : Type 0} (old new : Reading D) : Type 0 where
  pub gate : new.gate ≡ FIRST_GATE
  pub entries : new.entries ≡ old.entries
  pub limit : new.limit ≡ old.limit
  pub switched : new.switched ≡ old.switched
  pub chain : new.chain ≡ old.chain
  pub ended : new.ended ≡ old.ended

-- ---- a second reading

-- The bytes of the disk begin with these entries, and the reading has passed the first ones of them.
pub record Passes {D : Type 0} (view : D → DiskView) (r : Reading D) (h : List Entry) : Type 0 where
  pub passed : List Entry
  pub behind : List Entry
  pub parts : h ≡ passed ++ behind
  pub fits : AllByRecursion Fits h
  pub most : size h ≤ MOST_JOURNAL
  pub reading : IsReading view r passed
  pub begins : BeginsWith (body h) reading.bytes

-- the journal rests behind the gate of the reading
pub record RestsBehind {D : Type 0} (r : Reading D) (j : AtRest D) : Type 0 where
  pub disk : j.disk ≡ r.disk
  pub size_is : j.size ≡ r.gate + 1
  pub entries : j.entries ≡ r.entries
  pub limit : j.limit ≡ r.limit
  pub switched : j.switched ≡ r.switched
  pub chain : j.chain ≡ r.chain
