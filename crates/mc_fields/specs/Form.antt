-- A form says which fields stand one after the other, each field's range, and what is made of them. A
-- later field may depend on the values before it.
use Rattle.std.specs.Prelude.{ℕ, zero, suc, Bool, true, false, List, [], ◌∷◌, length, take, drop, Option, Some, None, Result, Ok, Err, nat_lt, if◌then◌else◌}
use Rattle.mc_fields.specs.Reading.{Read, ◌>>=◌, whole}
use Rattle.mc_fields.specs.Field.{Size, two, size, bytes_number}

pub data Form (A : Type 0) : Type 0 where
  done : A → Form A
  -- a number of a size, from low to high
  number : (z : Size) (low high : ℕ) → (ℕ → Form A) → Form A
  flag : (Bool → Form A) → Form A
  -- a str whose bytes pass the test
  str : (List ℕ → Bool) → (List ℕ → Form A) → Form A
  -- so many bytes
  plain : ℕ → (List ℕ → Form A) → Form A

-- one form, and behind it one that may depend on its answer
abbrev pub followed : {A B : Type 0} → Form A → (A → Form B) → Form B
followed (done x) next = next x
followed (number z low high more) next = number z low high λ n. followed (more n) next
followed (flag more) next = flag λ b. followed (more b) next
followed (str test more) next = str test λ s. followed (more s) next
followed (plain n more) next = plain n λ s. followed (more s) next

-- a form a number of times
abbrev pub repeated : {A : Type 0} → ℕ → Form A → Form (List A)
repeated zero f = done []
repeated (suc n) f = followed f λ x. followed (repeated n f) λ xs. done (x ∷ xs)

-- a flag, and where it is 1 a form
abbrev pub optional_after : {A : Type 0} → Form A → Bool → Form (Option A)
optional_after f false = done None
optional_after f true = followed f λ x. done (Some x)

abbrev pub optional : {A : Type 0} → Form A → Form (Option A)
optional f = flag (optional_after f)

-- ---- one field each: its value and the bytes after it, or how many bytes are left from its first byte
-- where it is malformed or not whole

abbrev pub sized_at : Size → ℕ → ℕ → List ℕ → Read ℕ
sized_at z low high bytes =
    if nat_lt (length bytes) (size z) then Err (length bytes)
    else if nat_lt (bytes_number z (take (size z) bytes)) low then Err (length bytes)
    else if nat_lt high (bytes_number z (take (size z) bytes)) then Err (length bytes)
    else Ok (bytes_number z (take (size z) bytes), drop (size z) bytes)

abbrev pub flag_at : List ℕ → Read Bool
flag_at [] = Err 0
flag_at (zero ∷ rest) = Ok (false, rest)
flag_at (suc zero ∷ rest) = Ok (true, rest)
flag_at (suc (suc b) ∷ rest) = Err (suc (length rest))

abbrev pub plain_at : ℕ → List ℕ → Read (List ℕ)
plain_at n bytes =
    if nat_lt (length bytes) n then Err (length bytes)
    else Ok (take n bytes, drop n bytes)

-- The two bytes of length and the bytes of a str are one field.
abbrev pub counted_after : ℕ → ℕ × List ℕ → Read (List ℕ)
counted_after left n =
    if nat_lt (length n.1) n.0 then Err left
    else Ok (take n.0 n.1, drop n.0 n.1)

abbrev pub passing : (List ℕ → Bool) → ℕ → List ℕ × List ℕ → Read (List ℕ)
passing test left s = if test s.0 then Ok s else Err left

-- any bytes with their length before them
unfoldable pub counted_at : List ℕ → Read (List ℕ)
counted_at bytes = sized_at two 0 65535 bytes >>= counted_after (length bytes)

unfoldable pub str_at : (List ℕ → Bool) → List ℕ → Read (List ℕ)
str_at test bytes = counted_at bytes >>= passing test (length bytes)

-- ---- the fields of a form

abbrev pub run : {A : Type 0} → Form A → List ℕ → Read A
run (done x) bytes = Ok (x, bytes)
run (number z low high next) bytes = sized_at z low high bytes >>= λ r. run (next r.0) r.1
run (flag next) bytes = flag_at bytes >>= λ r. run (next r.0) r.1
run (str test next) bytes = str_at test bytes >>= λ r. run (next r.0) r.1
run (plain n next) bytes = plain_at n bytes >>= λ r. run (next r.0) r.1

-- All of the bytes: the form's answer, or the place of the fault. That is the first byte of the first
-- field that is malformed or not whole, or where the bytes begin that are left over.
abbrev pub all_of : {A : Type 0} → Form A → List ℕ → Result A ℕ
all_of f bytes = whole (length bytes) (run f bytes)
