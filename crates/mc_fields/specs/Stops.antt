-- Where the bytes of a form stop, said of its fields alone and not of a way to read them.
use Rattle.std.specs.Prelude.{◌≡◌, ℕ, ◌<◌, ◌≤◌, ◌^◌, Bool, IsTrue, List, [], ◌∷◌, ◌++◌, length}
use Rattle.mc_fields.specs.Field.{limit, Field, field_bytes, spelled}
use Rattle.mc_fields.specs.Field as field
use Rattle.mc_fields.specs.Form.{Form, done, number, flag, str, plain}

-- a field that the form lets stand first, and the form of what comes after it
abbrev pub MayStand : {A : Type 0} → Form A → Field → Form A → Type 0
MayStand (done x) v next = ⊥
MayStand (number z low high more) v next = (n : ℕ) × (low ≤ n) × (n ≤ high) × (n < limit z) × (v ≡ field.number z n) × (next ≡ more n)
MayStand (flag more) v next = (b : Bool) × (v ≡ field.flag b) × (next ≡ more b)
MayStand (str test more) v next = (s : List ℕ) × IsTrue (test s) × (length s < 2 ^ 16) × (v ≡ field.str s) × (next ≡ more s)
MayStand (plain n more) v next = (s : List ℕ) × (length s ≡ n) × (v ≡ field.plain s) × (next ≡ more s)

-- the form lets these fields stand one after the other, and then goes on as another
abbrev pub GoesOn : {A : Type 0} → Form A → List Field → Form A → Type 0
GoesOn f [] next = f ≡ next
GoesOn f (v ∷ vs) next = (g : Form _) × MayStand f v g × GoesOn g vs next

-- At the place, no field stands that may stand there: the bytes before it are whole fields, and those
-- from it on begin with none.
pub record StopsAt {A : Type 0} (f : Form A) (bytes : List ℕ) (place : ℕ) : Type 0 where
  pub before : List Field
  pub next : Form A
  pub rest : List ℕ
  pub goes_on : GoesOn f before next
  pub parts : bytes ≡ spelled before ++ rest
  pub place_is : place ≡ length (spelled before)
  pub none : (v : Field) (after : Form A) (more : List ℕ) → MayStand next v after → rest ≡ field_bytes v ++ more → ⊥
