-- Reading fields from the front of a list of bytes. What reading gives is a function of the bytes,
-- and a fault is the number of bytes left from the first one that no such field has there.
use Rattle.std.specs.Prelude.{ℕ, zero, suc, ◌+◌, ◌-◌, ◌*◌, Bool, ◌&&◌, nat_lt, nat_le, ◌==◌, if◌then◌else◌, List, [], ◌∷◌, ◌++◌, length, Option, Some, None, Result, Ok, Err}

-- what was read and the bytes after it, or how many bytes are left at the fault
abbrev pub Read : Type 0 → Type 0
Read A = Result (A × List ℕ) ℕ

-- the next step, unless there was a fault
infixl 10 ◌>>=◌
abbrev pub ◌>>=◌ : {A B : Type 0} → Result A ℕ → (A → Result B ℕ) → Result B ℕ
(Ok x) >>= f = f x
(Err e) >>= f = Err e

-- two fields one after the other
abbrev pub pair_at : {A B : Type 0} → (List ℕ → Read A) → (List ℕ → Read B) → List ℕ → Read (A × B)
pair_at first second bytes = first bytes >>= λ a. second a.1 >>= λ b. Ok ((a.0, b.0), b.1)

-- what was read, seen otherwise
abbrev pub map_read : {A B : Type 0} → (A → B) → Read A → Read B
map_read f r = r >>= λ x. Ok (f x.0, x.1)

-- all of the bytes: what was read, or the place of the fault, counted from the front
abbrev pub whole : {A : Type 0} → ℕ → Read A → Result A ℕ
whole n (Ok x) = if length x.1 == 0 then Ok x.0 else Err (n - length x.1)
whole n (Err left) = Err (n - left)

-- ---- these very bytes

unfoldable pub literal_at : List ℕ → List ℕ → Read (Unit {0})
literal_at [] bytes = Ok (tt, bytes)
literal_at (l ∷ ls) [] = Err 0
literal_at (l ∷ ls) (c ∷ cs) = if c == l then literal_at ls cs else Err (suc (length cs))

-- ---- fields up to a byte that stops them

-- A field is read by a machine that takes a byte at a time, up to a byte that stops it.
pub record Machine (S : Type 0) : Type 0 where
  -- the state takes this byte
  pub may : S → ℕ → Bool
  pub next : S → ℕ → S
  -- the field may end here
  pub done : S → Bool
  pub stop : ℕ

unfoldable pub field_at : {S : Type 0} → Machine S → S → List ℕ → Read S
field_at m s [] = Err 0
field_at m s (c ∷ cs) =
    if m.may s c then field_at m (m.next s c) cs
    else if (c == m.stop) && m.done s then Ok (s, cs)
    else Err (suc (length cs))

-- the state that the bytes take the machine to, where they are a field whole
unfoldable pub field_of : {S : Type 0} → Machine S → S → List ℕ → Option S
field_of m s [] = if m.done s then Some s else None
field_of m s (c ∷ cs) = if m.may s c then field_of m (m.next s c) cs else None

-- whether a text of at most so many bytes that has n goes on with this byte
abbrev pub may_follow : (ℕ → Bool) → (ℕ → Bool) → ℕ → ℕ → ℕ → Bool
may_follow first other most n c = nat_lt n most && (if n == 0 then first c else other c)

-- a text: the state is what was read of it
abbrev pub text_machine : (ℕ → Bool) → (ℕ → Bool) → ℕ → ℕ → ℕ → Machine (List ℕ)
text_machine first other least most stop = record {
  may = λ s c. may_follow first other most (length s) c;
  next = λ s c. s ++ c ∷ [];
  done = λ s. nat_le least (length s);
  stop = stop;
}

abbrev pub text_at : (ℕ → Bool) → (ℕ → Bool) → ℕ → ℕ → ℕ → List ℕ → Read (List ℕ)
text_at first other least most stop bytes = field_at (text_machine first other least most stop) [] bytes

-- `0` to `9`
abbrev pub is_decimal_digit : ℕ → Bool
is_decimal_digit c = nat_le 48 c && nat_le c 57

-- a number from 1 to the most: the state is the number so far, 0 before the first digit
abbrev pub number_machine : ℕ → ℕ → Machine ℕ
number_machine most stop = record {
  may = λ v c. is_decimal_digit c && (nat_lt 0 (10 * v + (c - 48)) && nat_le (10 * v + (c - 48)) most);
  next = λ v c. 10 * v + (c - 48);
  done = λ v. nat_lt 0 v;
  stop = stop;
}

abbrev pub number_at : ℕ → ℕ → List ℕ → Read ℕ
number_at most stop bytes = field_at (number_machine most stop) 0 bytes

-- ---- hex digits in lower case

-- the value of a digit
unfoldable pub digit_of : ℕ → Option ℕ
digit_of c =
    if is_decimal_digit c then Some (c - 48)
    else if nat_le 97 c && nat_le c 102 then Some (c - 87)
    else None

abbrev pub or_fault : Option ℕ → List ℕ → Read ℕ
or_fault (Some v) cs = Ok (v, cs)
or_fault None cs = Err (suc (length cs))

unfoldable pub digit_at : List ℕ → Read ℕ
digit_at [] = Err 0
digit_at (c ∷ cs) = or_fault (digit_of c) cs

-- a byte as two digits, the high one first
unfoldable pub byte_at : List ℕ → Read ℕ
byte_at bytes = map_read (λ x. x.0 * 16 + x.1) (pair_at digit_at digit_at bytes)

-- so many bytes, each as two digits
unfoldable pub hex_at : ℕ → List ℕ → Read (List ℕ)
hex_at zero bytes = Ok ([], bytes)
hex_at (suc n) bytes = map_read (λ x. (x.0 * 16 + x.1.0) ∷ x.1.1) (pair_at digit_at (pair_at digit_at (hex_at n)) bytes)
