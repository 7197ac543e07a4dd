-- What the links of a play receive, and what its clock gives.
use Rattle.std.specs.Prelude.{◌≡◌, ℕ, zero, suc, ◌+◌, ◌-◌, ◌*◌, ◌^◌, ◌≤◌, ◌<◌, min, List, [], ◌∷◌, ◌++◌, length, map, Bool, Some, IsTrue, ◌↔◌}
use Rattle.mc_outside.specs.Bytes.{BeginsWith}
use Rattle.mc_outside.specs.LinkView.{LinkView, Session}
use Rattle.play_heads.specs.PlayHeads.{link_from, play_links}

-- the link that begins with this head received a first part of its heads, and all of them where it was read
-- to its end
pub record HasReceived (count first : ℕ) (s : Session) : Type 0 where
  pub part : BeginsWith s.received (link_from count first)
  pub whole : IsTrue s.to_end → s.received ≡ link_from count first

-- the same of links one after another, 1,000 heads apart
abbrev pub HaveReceived : ℕ → ℕ → List Session → Type 0
HaveReceived count first [] = Unit {0}
HaveReceived count first (s ∷ ss) = HasReceived count first s × HaveReceived count (first + 1000) ss

-- the first readings of the clock: 0, 1, 2 and so on, up to the last moment, which then stays
abbrev pub readings_of : ℕ → List ℕ
readings_of zero = []
readings_of (suc n) = readings_of n ++ min n (2 ^ 35 - 1) ∷ []

-- What links tell that are played on: their heads are those of a play of so many, in order, their clock gave
-- the numbers in order, and no call failed. Each link taken has a head, and no more come only where all heads
-- have their links.
pub record IsPlay (count : ℕ) (v : LinkView) : Type 0 where
  pub links : List Session
  pub told : v.sessions ≡ Some links
  pub received : HaveReceived count 0 links
  pub needed : 1000 * length links < count + 1000
  pub enough : IsTrue v.over → count ≤ 1000 * length links
  pub reads : ℕ
  pub clock : v.readings ≡ Some (readings_of reads)
  pub faultless : v.faults ≡ 0

-- the links received the whole play, each one its heads
pub record HasPlayed (count : ℕ) (v : LinkView) : Type 0 where
  pub links : List Session
  pub told : v.sessions ≡ Some links
  pub all : map (λ s. s.received) links ≡ play_links count

-- ---- while they are played on

-- the same as `HasReceived`, where this is still to come
pub record StillComes (count first : ℕ) (rest : List ℕ) (s : Session) : Type 0 where
  pub received : s.received ++ rest ≡ link_from count first
  pub none : IsTrue s.to_end → rest ≡ []

-- the same as `HaveReceived`, where this is still to come on the last link
abbrev pub StillCome : ℕ → ℕ → List ℕ → List Session → Type 0
StillCome count first rest [] = rest ≡ []
StillCome count first rest (s ∷ []) = StillComes count first rest s
StillCome count first rest (s ∷ t ∷ ss) = HasReceived count first s × StillCome count (first + 1000) rest (t ∷ ss)

-- the links before the last one received all of their heads
abbrev pub AreWhole : ℕ → ℕ → List Session → Type 0
AreWhole count first [] = Unit {0}
AreWhole count first (s ∷ []) = Unit {0}
AreWhole count first (s ∷ t ∷ ss) = (s.received ≡ link_from count first) × AreWhole count (first + 1000) (t ∷ ss)

-- Of a play of so many heads, those before `end` have their links, `rest` is still to come on the last one,
-- the others are whole or not, the clock stands at its next reading, and this is told.
pub record IsPlaying (count end : ℕ) (rest : List ℕ) (whole : Bool) (clock : ℕ) (v : LinkView) : Type 0 where
  pub links : List Session
  pub told : v.sessions ≡ Some links
  pub come : StillCome count 0 rest links
  pub others : IsTrue whole ↔ AreWhole count 0 links
  pub needed : 1000 * length links < count + 1000
  pub reach : end ≡ min (1000 * length links) count
  pub reads : ℕ
  pub readings : v.readings ≡ Some (readings_of reads)
  pub next : clock ≡ min reads (2 ^ 35 - 1)
