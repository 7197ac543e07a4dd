-- Bytes put into a slice from a place on, as far as there is room, and bytes put behind those of a vector.
use Rattle.std.specs.Prelude.{◌≡◌, ℕ, ◌+◌, ◌<◌, ◌≤◌, List, ◌++◌, length, take, drop, Option, Some, None, Result, Ok, Err}

-- New is old with the text from a place on, and the answer is the place behind the text. None says that
-- the text reaches past the end, and nothing of the bytes.
abbrev pub Puts : List ℕ → List ℕ → ℕ → List ℕ → Option ℕ → Type 0
Puts old new at text None = length old < at + length text
Puts old new at text (Some end) = (end ≡ at + length text) × (end ≤ length old) × (new ≡ take at old ++ (text ++ drop end old))

-- new is old and the text, or memory was refused and old is the front of new
abbrev pub Appends : {X E : Type 0} → List ℕ → List ℕ → List ℕ → Result X E → Type 0
Appends old new text (Ok u) = new ≡ old ++ text
Appends old new text (Err e) = take (length old) new ≡ old
