-- Words on bytes, on counts and on what is told.
use Rattle.std.specs.Prelude.{◌≡◌, ℕ, ◌+◌, ◌-◌, ◌^◌, ◌≤◌, min, List, ◌++◌, length, take, drop, replicate, Option, Some, Result, OnOk, OnErr}

-- bytes begins with front
abbrev pub BeginsWith : List ℕ → List ℕ → Type 0
BeginsWith front bytes = (rest : List ℕ) × (bytes ≡ front ++ rest)

-- after is before, and behind it some first part of bytes, none or all of them
abbrev pub AddsPart : List ℕ → List ℕ → List ℕ → Type 0
AddsPart bytes before after = (part : List ℕ) × BeginsWith part bytes × (after ≡ before ++ part)

-- these bytes at this place; a gap before it is filled with zeros
abbrev pub put : ℕ → List ℕ → List ℕ → List ℕ
put at bytes old = take at old ++ replicate (at - length old) 0 ++ bytes ++ drop (at + length bytes) old

-- what is told before is told after, and R holds of the two
abbrev pub Told : {A : Type 0} → (A → A → Type 0) → Option A → Option A → Type 0
Told {A} R before after = (x : A) → before ≡ Some x → (y : A) × (after ≡ Some y) × R x y

-- A count of faults is below 2^64. It rose where it is greater, or stands at 2^64 - 1, its last value.
abbrev pub Rose : ℕ → ℕ → Type 0
Rose before after = min (before + 1) (2 ^ 64 - 1) ≤ after

-- an error comes only where the count rose, and Ok leaves the count as it was
pub record HasCause {T E : Type 0} (before after : ℕ) (result : Result T E) : Type 0 where
  pub rose : OnErr result (Rose before after)
  pub same : OnOk result (after ≡ before)
