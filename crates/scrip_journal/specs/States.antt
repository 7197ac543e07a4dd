-- The states of a journal. Each is seen as the disk that it owns and some numbers.
use Rattle.std.specs.Prelude.{◌≡◌, ◌≢◌, ◌⊎◌, ℕ, ◌+◌, ◌≤◌, Bool, true, false, List, [], ◌∷◌, ◌++◌, length, Option, Some, None, IsSome, unwrap_or}
use Rattle.std.specs.List.{AllByRecursion}
use Rattle.mc_outside.specs.DiskView.{DiskView}
use Rattle.mc_records.specs.Entry.{Entry, Fits, payload}
use Rattle.mc_records.specs.Chains.{first_chain, chain, chain_after, has_switch}
use Rattle.mc_records.specs.Sizes.{size}
use Rattle.mc_outside.specs.Bytes.{BeginsWith}
use Rattle.scrip_journal.specs.Layout.{body, framed, Encodes, Next, at_end, spoiled, unchained, next_of}
use Rattle.scrip_journal.specs.declared.ending.Ending.{Ending}
use Rattle.scrip_journal.specs.declared.ending.Ending.TheVariants.{Closed, Spoiled, Unchained, Failed}
use Rattle.mc_requests.specs.declared.limits.TheConstants.Limits.{MOST_JOURNAL}

-- ---- chains that may not be known

-- The chain of these entries, known wherever a Switch stands among them.
abbrev pub IsChainOf : Option (List ℕ) → List Entry → Type 0
IsChainOf None h = has_switch h ≡ false
IsChainOf (Some c) h = c ≡ chain h

-- a chain is known where a Switch stands
abbrev pub IsKnown : Bool → Option (List ℕ) → Type 0
IsKnown switched c = switched ≡ true → IsSome c

-- the chain, or that of no entries where it is not known
abbrev pub known_chain : Option (List ℕ) → List ℕ
known_chain c = unwrap_or c first_chain

-- the chain with one entry more of this payload, where it is known
abbrev pub chain_with : Option (List ℕ) → List ℕ → Option (List ℕ)
chain_with None payload_bytes = None
chain_with (Some c) payload_bytes = Some (chain_after c payload_bytes)

-- ---- states

-- a journal at rest
pub record AtRest (D : Type 0) : Type 0 where
  pub disk : D
  -- the place after the closed gate, which is how many bytes of the disk mean something
  pub size : ℕ
  -- how many entries there are
  pub entries : ℕ
  -- how many bytes it may have
  pub limit : ℕ
  -- whether a Switch stands, so that the next entry has its chain behind it, and the chain of the entries, where it is
  -- known
  pub switched : Bool
  pub chain : Option (List ℕ)

-- a journal with a next entry behind its closed gate; the size and the chain are what they will be
pub record WithNext (D : Type 0) : Type 0 where
  pub disk : D
  pub gate : ℕ
  pub size : ℕ
  pub entries : ℕ
  pub limit : ℕ
  pub switched : Bool
  pub chain : Option (List ℕ)

-- A journal that is read: the place of the next gate, how many entries stand before it, whether a Switch is among
-- them, and their chain, where it is known; the chain of those before the one found last, where that is a Switch; the
-- bytes from the gate on that were read ahead, the payload that was found last and the place of its first byte, and how
-- the reading ended, where it has.
pub record Reading (D : Type 0) : Type 0 where
  pub disk : D
  pub gate : ℕ
  pub entries : ℕ
  pub limit : ℕ
  pub switched : Bool
  pub chain : Option (List ℕ)
  pub before : List ℕ
  pub held : List ℕ
  pub last : List ℕ
  pub at : ℕ
  pub ended : Option Ending

-- The next entry may be looked for: the reading has ended, or found no payload yet, or the one found last is an entry's.
pub record MayGoOn {D : Type 0} (r : Reading D) : Type 0 where
  pub at_entry : r.ended ≡ None → (r.entries ≡ 0) ⊎ ((e : Entry) × Fits e × (r.last ≡ payload e))

-- The disk tells its bytes, which encode these entries, and a crash now leaves just them.
pub record IsJournal {D : Type 0} (view : D → DiskView) (j : AtRest D) (h : List Entry) : Type 0 where
  pub bytes : List ℕ
  pub told : (view j.disk).contents ≡ Some bytes
  pub stands : Encodes h bytes
  pub size_is : j.size ≡ size h
  pub entries_is : j.entries ≡ length h
  pub switched_is : j.switched ≡ has_switch h
  pub chain_is : IsChainOf j.chain h
  pub synced : (c : List ℕ) → (view j.disk).leaves c → c ≡ bytes

-- the same, with a next entry behind the closed gate
pub record IsStaged {D : Type 0} (view : D → DiskView) (s : WithNext D) (h : List Entry) (e : Entry) : Type 0 where
  pub bytes : List ℕ
  pub told : (view s.disk).contents ≡ Some bytes
  pub fits : AllByRecursion Fits h
  pub next_fits : Fits e
  pub gate : ℕ
  pub rest : List ℕ
  pub closed : gate ≢ 1
  pub shape : bytes ≡ body h ++ gate ∷ (framed h e ++ 0 ∷ rest)
  pub gate_is : s.gate + 1 ≡ size h
  pub size_is : s.size ≡ size (h ++ e ∷ [])
  pub entries_is : s.entries ≡ length h
  pub switched_is : s.switched ≡ has_switch (h ++ e ∷ [])
  pub chain_is : IsChainOf s.chain (h ++ e ∷ [])
  pub synced : (c : List ℕ) → (view s.disk).leaves c → c ≡ bytes

-- a reading that ended at a closed gate, or at bytes that can't stand, did so by what comes there
abbrev pub EndedBy : Option Ending → Next → Type 0
EndedBy None next = Unit {0}
EndedBy (Some Closed) next = next ≡ at_end
EndedBy (Some (Spoiled place)) next = next ≡ spoiled place
EndedBy (Some (Unchained place stood computed)) next = next ≡ unchained place stood computed
EndedBy (Some Failed) next = Unit {0}

-- The disk tells its bytes, which begin with these entries, and a crash now leaves just those bytes.
pub record IsReading {D : Type 0} (view : D → DiskView) (r : Reading D) (h : List Entry) : Type 0 where
  pub bytes : List ℕ
  pub told : (view r.disk).contents ≡ Some bytes
  pub fits : AllByRecursion Fits h
  pub most : size h ≤ MOST_JOURNAL
  pub rest : List ℕ
  pub shape : bytes ≡ body h ++ rest
  pub gate_is : r.gate + 1 ≡ size h
  pub entries_is : r.entries ≡ length h
  pub switched_is : r.switched ≡ has_switch h
  pub chain_is : IsChainOf r.chain h
  pub held_is : BeginsWith r.held rest
  pub ended_by : EndedBy r.ended (next_of h rest)
  pub synced : (c : List ℕ) → (view r.disk).leaves c → c ≡ bytes
