-- The kinds of field that binary formats are made of, and how each is spelled.
use Rattle.std.specs.Prelude.{ℕ, ◌<◌, ◌^◌, Bool, true, false, List, [], ◌∷◌, ◌++◌, length, flat_map, Option, Some, None}
use Rattle.std.specs.Int.{Width, w8, w16, w32, w64, byte_len, to_be_bytes, from_be_bytes}

-- how many bytes a number has
pub data Size : Type 0 where
  one : Size
  two : Size
  four : Size
  eight : Size

abbrev pub width : Size → Width
width one = w8
width two = w16
width four = w32
width eight = w64

abbrev pub size : Size → ℕ
size z = byte_len (width z)

-- the numbers of a size are below this
abbrev pub limit : Size → ℕ
limit one = 2 ^ 8
limit two = 2 ^ 16
limit four = 2 ^ 32
limit eight = 2 ^ 64

-- a number and its bytes, the high one first
abbrev pub number_bytes : Size → ℕ → List ℕ
number_bytes z n = to_be_bytes (width z) n

abbrev pub bytes_number : Size → List ℕ → ℕ
bytes_number z bytes = from_be_bytes (width z) bytes

-- a field with its value
pub data Field : Type 0 where
  number : Size → ℕ → Field
  flag : Bool → Field
  str : List ℕ → Field
  plain : List ℕ → Field

-- a flag is one byte, 0 or 1
abbrev pub flag_byte : Bool → ℕ
flag_byte false = 0
flag_byte true = 1

-- A str is two bytes of length and the bytes.
abbrev pub field_bytes : Field → List ℕ
field_bytes (number z n) = number_bytes z n
field_bytes (flag b) = flag_byte b ∷ []
field_bytes (str bytes) = number_bytes two (length bytes) ++ bytes
field_bytes (plain bytes) = bytes

-- a flag, and where it is 1 the fields of the value that is there
abbrev pub optional_fields : {A : Type 0} → (A → List Field) → Option A → List Field
optional_fields table None = flag false ∷ []
optional_fields table (Some x) = flag true ∷ table x

-- the fields' bytes, one field after the other
abbrev pub spelled : List Field → List ℕ
spelled fields = flat_map field_bytes fields

-- what a field can spell
abbrev pub FieldFits : Field → Type 0
FieldFits (number z n) = n < limit z
FieldFits (flag b) = Unit {0}
FieldFits (str bytes) = length bytes < 2 ^ 16
FieldFits (plain bytes) = Unit {0}
