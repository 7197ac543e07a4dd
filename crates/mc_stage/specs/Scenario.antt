-- What a stage was told to do.
use Rattle.std.specs.Prelude.{◌≡◌, ℕ, List, [], ◌∷◌, ◌++◌, drop, map, ◌+◌, ◌-◌, ◌^◌, ◌⊎◌, min, Result, OnOk, OnErr}
use Rattle.std.specs.List.{Contains}
use Rattle.std.proofs.Common.{Vec, Global}

-- calls numbered from 0: the numbers of those that shall fail, and how many were made
pub record Numbered : Type 0 where
  pub listed : List ℕ
  pub calls : ℕ

-- the readings of a clock: all of them, and those to come
pub record Readings : Type 0 where
  pub all : List ℕ
  pub left : List ℕ

-- the next reading, 0 where there are none
abbrev pub first_reading : List ℕ → ℕ
first_reading [] = 0
first_reading (r ∷ rs) = r

-- the readings after that one; the last stays
abbrev pub next_readings : List ℕ → List ℕ
next_readings [] = []
next_readings (r ∷ []) = r ∷ []
next_readings (r ∷ s ∷ rs) = s ∷ rs

-- the pieces without the empty ones at their front
abbrev pub without_empty : List (List ℕ) → List (List ℕ)
without_empty [] = []
without_empty ([] ∷ ps) = without_empty ps
without_empty ((x ∷ xs) ∷ ps) = (x ∷ xs) ∷ ps

-- what is left of the first piece, of which one recv gives a part
abbrev pub first_piece : List (List ℕ) → List ℕ
first_piece [] = []
first_piece (p ∷ ps) = p

-- the pieces after n bytes of the first one
abbrev pub pieces_after : ℕ → List (List ℕ) → List (List ℕ)
pieces_after n [] = []
pieces_after n (p ∷ ps) = without_empty (drop n p ∷ ps)

-- the pieces without some bytes at their front
abbrev pub cut_first : ℕ → List (List ℕ) → List (List ℕ)
cut_first place [] = []
cut_first place (p ∷ ps) = drop place p ∷ ps

-- the pieces from one on, that one from a place on
abbrev pub pieces_from : ℕ → ℕ → List (List ℕ) → List (List ℕ)
pieces_from piece place ps = cut_first place (drop piece ps)

-- the first piece has bytes left, or there is none
abbrev pub IsAtPiece : List (List ℕ) → Type 0
IsAtPiece ps = ps ≡ without_empty ps

-- the pieces of the first link, none where there is no link
abbrev pub first_link : List (List (List ℕ)) → List (List ℕ)
first_link [] = []
first_link (l ∷ ls) = l

-- the links to come, where the next one is kept last
abbrev pub links_of : List (Vec (Vec ℕ Global) Global) → List (List (List ℕ))
links_of [] = []
links_of (l ∷ ls) = links_of ls ++ map (λ (v : Vec ℕ Global). v.items) l.items ∷ []

-- what a stage was told to do, as far as it isn't done
pub record Scenario : Type 0 where
  pub disk : Numbered
  pub link : Numbered
  -- the links to come
  pub links : List (List (List ℕ))
  -- what is left of the standing link
  pub pieces : List (List ℕ)
  pub readings : Readings
  -- how many calls failed since memory was refused
  pub starved : ℕ

-- One numbered call: where it is listed it fails, and memory isn't asked for; else it fails only
-- where memory was refused, which is counted.
pub record Planned {T E : Type 0} (calls after : Numbered) (starved starved_after : ℕ) (result : Result T E) : Type 0 where
  pub counted : after ≡ record calls { calls = min (calls.calls + 1) (2 ^ 64 - 1) }
  pub ok : OnOk result ((Contains calls.listed calls.calls → ⊥) × (starved_after ≡ starved))
  pub err : OnErr result ((Contains calls.listed calls.calls × (starved_after ≡ starved)) ⊎ ((Contains calls.listed calls.calls → ⊥) × (starved_after ≡ min (starved + 1) (2 ^ 32 - 1))))

-- a numbered call of Disk, and one of Link
abbrev pub DiskPlanned : {T E : Type 0} → Scenario → Scenario → Result T E → Type 0
DiskPlanned a b result = Planned a.disk b.disk a.starved b.starved result

abbrev pub LinkPlanned : {T E : Type 0} → Scenario → Scenario → Result T E → Type 0
LinkPlanned a b result = Planned a.link b.link a.starved b.starved result

-- nothing else of what it was told to do is done
abbrev pub OnlyDiskCalled : Scenario → Scenario → Type 0
OnlyDiskCalled a b = b ≡ record a { disk = b.disk; starved = b.starved }

abbrev pub OnlyLinkCalled : Scenario → Scenario → Type 0
OnlyLinkCalled a b = b ≡ record a { link = b.link; starved = b.starved }
