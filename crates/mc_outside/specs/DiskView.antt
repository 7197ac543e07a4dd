-- What a disk means, and what its calls do to that.
use Rattle.std.specs.Prelude.{◌≡◌, ◌⊎◌, ◌↔◌, ℕ, ◌+◌, ◌^◌, ◌<◌, ◌≤◌, min, max, List, length, take, drop, Option, Some, is_some}
use Rattle.mc_outside.specs.Bytes.{BeginsWith}

pub record DiskView : Type 1 where
  -- what a read gives, where it is told
  pub contents : Option (List ℕ)
  -- a clock
  pub moment : ℕ
  -- a crash now may leave this image
  pub leaves : List ℕ → Type 0
  -- a crash since that moment might have left this image, with these bytes sent by then
  pub pairs : ℕ → List ℕ → List ℕ → Type 0
  -- how often the disk failed
  pub faults : ℕ
  -- the bytes sent so far
  pub aside : List ℕ

-- what holds of every disk at each moment
pub record IsDisk (a : DiskView) : Type 0 where
  pub possible : (x : List ℕ) → a.contents ≡ Some x → a.leaves x
  pub counts : (t : ℕ) (c : List ℕ) → t ≤ a.moment → a.leaves c → a.pairs t c a.aside
  pub now : (c s : List ℕ) → a.pairs a.moment c s → a.leaves c × (s ≡ a.aside)
  pub below : a.faults < 2 ^ 64

-- a is an earlier moment of the disk, b a later one
pub record Goes (a b : DiskView) : Type 0 where
  pub later : a.moment ≤ b.moment
  pub faults : a.faults ≤ b.faults
  pub tells : is_some b.contents ≡ is_some a.contents
  -- the crash pairs since t are those that there were at a, and those since a
  pub joins : (t : ℕ) (c s : List ℕ) → t ≤ a.moment → b.pairs t c s ↔ (a.pairs t c s ⊎ b.pairs a.moment c s)

-- the disk alone worked between a and b
pub record DiskGoes (a b : DiskView) : Type 0 where
  pub goes : Goes a b
  pub aside : b.aside ≡ a.aside

-- the links alone worked between a and b
pub record LinkKeeps (a b : DiskView) : Type 0 where
  pub goes : Goes a b
  pub contents : b.contents ≡ a.contents
  pub faults : b.faults ≡ a.faults
  pub leaves : (c : List ℕ) → b.leaves c ↔ a.leaves c
  pub sent : BeginsWith a.aside b.aside
  pub pairs : (c s : List ℕ) → b.pairs a.moment c s → a.leaves c × (BeginsWith a.aside s × BeginsWith s b.aside)

-- The crash pairs of one call of Disk: an image of before it or of after it, and the bytes sent by then.
abbrev pub CallPairs : DiskView → DiskView → Type 0
CallPairs a b = (c s : List ℕ) → b.pairs a.moment c s → (s ≡ a.aside) × (a.leaves c ⊎ b.leaves c)

-- each image of after is an image of before, after a step
abbrev pub Follows : (List ℕ → List ℕ → Type 0) → DiskView → DiskView → Type 0
Follows step a b = (c : List ℕ) → b.leaves c → (d : List ℕ) × a.leaves d × step d c

-- a crash leaves an image that it might have left before
abbrev pub LeavesNoMore : DiskView → DiskView → Type 0
LeavesNoMore a b = (c : List ℕ) → b.leaves c → a.leaves c

-- where the contents are told, a crash leaves them and nothing else
abbrev pub IsSynced : DiskView → Type 0
IsSynced a = (x : List ℕ) → a.contents ≡ Some x → (c : List ℕ) → a.leaves c → c ≡ x

-- a write of n bytes at this place that a crash cuts short: any bytes in the range and past the old end, the same elsewhere
pub record Torn (at n : ℕ) (old new : List ℕ) : Type 0 where
  pub before : BeginsWith (take at old) new
  pub behind : BeginsWith (drop (at + n) old) (drop (at + n) new)
  pub no_shorter : length old ≤ length new
  pub no_longer : length new ≤ max (length old) (at + n)

-- a cut to this size that a crash cuts short: some size between, and any bytes from there on
pub record CutShort (size : ℕ) (old new : List ℕ) : Type 0 where
  pub front : BeginsWith (take size new) old
  pub no_shorter : min size (length old) ≤ length new
  pub no_longer : length new ≤ length old

-- From a to b the disk went on, and each crash pair of the stretch has P.
pub record Ran (a b : DiskView) (P : List ℕ → List ℕ → Type 0) : Type 0 where
  pub goes : Goes a b
  pub each : (c s : List ℕ) → b.pairs a.moment c s → P c s

-- Between a and b the disk was read, and synced perhaps: nothing new is there, and nothing was sent.
pub record OnlyRead (a b : DiskView) : Type 0 where
  pub ran : Ran a b (λ c s. a.leaves c × (s ≡ a.aside))
  pub aside : b.aside ≡ a.aside
  pub contents : b.contents ≡ a.contents
  pub leaves : LeavesNoMore a b
