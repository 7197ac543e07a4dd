-- A name is ASCII, and so a text.
use Rattle.std.proofs.Common.{◌≡◌, ◌⊎◌, ℕ, zero, suc, ◌<◌, Bool, true, false, ◌&&◌, ◌||◌, List, [], ◌∷◌, inl, inr, refl, arith}
use Rattle.std.specs.Prelude.{◌==◌, nat_le, IsTrue, slice_index}
use Rattle.std.specs.List.{All}
use Rattle.std.specs.Str.{IsUtf8}
use Rattle.std.proofs.lemmas.Bool.{eqb-true, leb-true}
use Rattle.std.proofs.lemmas.List.Elements.{All-head, All-tail}
use Rattle.std.proofs.lemmas.Str.{IsUtf8-from_ascii}
use Rattle.scrip_form.specs.Texts.{IsName, is_letter_or_digit, is_name_byte}

or_cases : (a b : Bool) → (a || b) ≡ true → (a ≡ true) ⊎ (b ≡ true)
or_cases true b h = inl refl
or_cases false b h = inr h

and_right : (a b : Bool) → (a && b) ≡ true → b ≡ true
and_right true b h = h
and_right false true h = refl
and_right false false h = h

letter_ascii : (b : ℕ) → is_letter_or_digit b ≡ true → b < 128
letter_ascii b h = elim (or_cases (nat_le 97 b && nat_le b 122) (nat_le 48 b && nat_le b 57) h) [
  | inl letter ↦ omega (arith, leb-true b 122 (and_right (nat_le 97 b) _ letter))
  | inr digit ↦ omega (arith, leb-true b 57 (and_right (nat_le 48 b) _ digit))
]

byte_ascii : (b : ℕ) → is_name_byte b ≡ true → b < 128
byte_ascii b h = elim (or_cases (is_letter_or_digit b) (b == 45 || b == 46) h) [
  | inl letter ↦ letter_ascii b letter
  | inr mark ↦ elim (or_cases (b == 45) (b == 46) mark) [ inl e ↦ omega (arith, eqb-true b 45 e) | inr e ↦ omega (arith, eqb-true b 46 e) ]
]

bytes_ascii : (bs : List ℕ) → All (λ b. IsTrue (is_name_byte b)) bs → (i : ℕ) → slice_index bs i < 128
bytes_ascii [] all i = omega arith
bytes_ascii (b ∷ bs) all zero = byte_ascii b (All-head (λ c. IsTrue (is_name_byte c)) b bs all)
bytes_ascii (b ∷ bs) all (suc i) = bytes_ascii bs (All-tail (λ c. IsTrue (is_name_byte c)) b bs all) i

pub name_is_text : (bs : List ℕ) → IsName bs → IsUtf8 bs
name_is_text bs is = IsUtf8-from_ascii bs (bytes_ascii bs is.all)
