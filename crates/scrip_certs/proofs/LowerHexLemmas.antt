-- A text of lower-case digits is what its bytes are written as.
use Rattle.std.proofs.Common.{◌≡◌, ℕ, ◌+◌, ◌*◌, ◌/◌, ◌%◌, ◌≤◌, ◌<◌, true, false, List, [], ◌∷◌, length, Option, Some, None, Result, Ok, Err, refl, sym, ap, ◌∙◌, subst, arith, inl, inr}
use Rattle.std.specs.Prelude.{◌&&◌, nat_le, IsOk, is_some, MatchResult}
use Rattle.std.specs.List.{AllPass}
use Rattle.std.proofs.lemmas.Bool.{cases_Bool, false≢true, and_parts, or_cases, leb-true, lt-leb, and_left, and_right}
use Rattle.std.proofs.lemmas.List.Elements.{All-head, All-tail, All-weaker}
use Rattle.hex.specs.declared.error.FromHexError.{FromHexError}
use Rattle.hex.specs.Hex.{encode_with, encode_lower, hex_digit_value, is_hex_digit, digit_or_error, value_at, pair_value, decode_pairs, decode_sized, ◌>>=◌}
use Rattle.hex.proofs.HexLemmas.{IsOk-decode_sized, decode_sized-twice, decode_of-even}
use Rattle.mc_fields.specs.Reading.{digit_of}
use Rattle.mc_fields.proofs.HexField.{glyph, glyph-digit_of}
use Rattle.scrip_certs.specs.LowerHex.{is_lower_digit, IsLowerHex}

abbrev nothing : Option ℕ
nothing = None

bind_ok : {A B : Type 0} (r : Result A FromHexError) (f : A → Result B FromHexError) (y : B) → (r >>= f) ≡ Ok y → (x : A) × (r ≡ Ok x) × (f x ≡ Ok y)
bind_ok (Ok x) f y e = (x, refl, e)
bind_ok (Err d) f y e = absurd cc

-- a lower-case digit's value is the same for both readers
same_value : (c : ℕ) → is_lower_digit c ≡ true → hex_digit_value c ≡ digit_of c
unfolding digit_of
same_value c h = elim (or_cases (nat_le 48 c && nat_le c 57) (nat_le 97 c && nat_le c 102) h) [
  | inl low ↦
      let two = and_parts (nat_le 48 c) (nat_le c 57) low in
      let le : c ≤ 57 = leb-true c 57 two.1 in
      let a : (nat_le 65 c && nat_le c 70) ≡ false = and_left (nat_le 65 c) (nat_le c 70) (lt-leb 65 c (omega arith)) in
      let b : (nat_le 97 c && nat_le c 102) ≡ false = and_left (nat_le 97 c) (nat_le c 102) (lt-leb 97 c (omega arith)) in
      rw (a, b, low) refl
  | inr high ↦
      let two = and_parts (nat_le 97 c) (nat_le c 102) high in
      let ge : 97 ≤ c = leb-true 97 c two.0 in
      let a : (nat_le 65 c && nat_le c 70) ≡ false = and_right (nat_le 65 c) (nat_le c 70) (lt-leb c 70 (omega arith)) in
      let b : (nat_le 48 c && nat_le c 57) ≡ false = and_right (nat_le 48 c) (nat_le c 57) (lt-leb c 57 (omega arith)) in
      rw (a, b, high) refl
]

lower_is_hex : (c : ℕ) → is_lower_digit c ≡ true → is_hex_digit c ≡ true
unfolding digit_of
lower_is_hex c h = elim (or_cases (nat_le 48 c && nat_le c 57) (nat_le 97 c && nat_le c 102) h) [
  | inl low ↦ ap is_some (same_value c h) ∙ rw low refl
  | inr high ↦ ap is_some (same_value c h) ∙ elim (cases_Bool (nat_le 48 c && nat_le c 57)) [ inl low ↦ rw low refl | inr not_low ↦ rw (not_low, high) refl ]
]

ok_value : (r : Result (List ℕ) FromHexError) → IsOk r → (bytes : List ℕ) × (r ≡ Ok bytes)
ok_value (Ok x) h = (x, refl)
ok_value (Err e) h = absurd (false≢true h)

digit_ok : (c i v : ℕ) (o : Option ℕ) → digit_or_error c i o ≡ Ok v → o ≡ Some v
digit_ok c i v (Some w) e = ap Some (let k : w ≡ v = cc in k)
digit_ok c i v None e = absurd cc

-- the digit that a value is written as
written : (c i v : ℕ) → is_lower_digit c ≡ true → value_at c i ≡ Ok v → (glyph v ≡ c) × (v < 16)
written c i v h e = glyph-digit_of c v (sym (same_value c h) ∙ digit_ok c i v (hex_digit_value c) e)

abbrev ok : {A : Type 0} → A → Result A FromHexError
ok x = Ok x

ok_is : {A : Type 0} (x y : A) → ok x ≡ ok y → x ≡ y
ok_is x y e = cc

pub encode_lower-decode_pairs : (i : ℕ) (s bytes : List ℕ) → AllPass is_lower_digit s → decode_pairs i s ≡ Ok bytes → encode_lower bytes ≡ s
unfolding decode_pairs encode_with glyph
encode_lower-decode_pairs i [] bytes all e = ap encode_lower (sym (ok_is [] bytes e))
encode_lower-decode_pairs i (a ∷ []) bytes all e = absurd cc
encode_lower-decode_pairs i (a ∷ b ∷ rest) bytes all e =
    let p0 = bind_ok (pair_value a b i) _ bytes e in
    let p1 = bind_ok (value_at a i) _ p0.0 p0.1 in
    let p2 = bind_ok (value_at b (i + 1)) _ p0.0 p1.2 in
    let p3 = bind_ok (decode_pairs (i + 2) rest) _ bytes p0.2 in
    let tail = All-tail (λ c. is_lower_digit c ≡ true) a (b ∷ rest) all in
    let high = written a i p1.0 (All-head (λ c. is_lower_digit c ≡ true) a (b ∷ rest) all) p1.1 in
    let low = written b (i + 1) p2.0 (All-head (λ c. is_lower_digit c ≡ true) b rest tail) p2.1 in
    let ih : encode_lower p3.0 ≡ rest = encode_lower-decode_pairs (i + 2) rest p3.0 (All-tail (λ c. is_lower_digit c ≡ true) b rest tail) p3.1 in
    let byte : p1.0 * 16 + p2.0 ≡ p0.0 = ok_is (p1.0 * 16 + p2.0) p0.0 p2.2 in
    let front : p0.0 / 16 ≡ p1.0 = omega (arith, byte, low.1) in
    let last : p0.0 % 16 ≡ p2.0 = omega (arith, byte, low.1) in
    let all_bytes : p0.0 ∷ p3.0 ≡ bytes = ok_is (p0.0 ∷ p3.0) bytes p3.2 in
    let P : List ℕ → Type 0 = λ l. encode_lower l ≡ a ∷ b ∷ rest in
    subst P all_bytes (rw (front, last, ih, high.0, low.0) refl)

all_hex : (t : List ℕ) → AllPass is_lower_digit t → AllPass is_hex_digit t
all_hex t all = All-weaker (λ c. is_lower_digit c ≡ true) (λ c. is_hex_digit c ≡ true) lower_is_hex t all

-- a text of 32 digits in lower case decodes
pub decodes : (t : List ℕ) → IsLowerHex 32 t → (bytes : List ℕ) × (decode_sized t 16 ≡ Ok bytes) × (encode_lower bytes ≡ t)
decodes t is =
    let found = ok_value (decode_sized t 16) ((IsOk-decode_sized t 16).1 (omega (arith, is.len), all_hex t is.digits)) in
    let even : length t % 2 ≡ 0 = omega (arith, is.len) in
    let pairs : decode_pairs 0 t ≡ Ok found.0 = sym (decode_of-even t even) ∙ sym (decode_sized-twice t 16 (omega (arith, is.len))) ∙ found.1 in
    (found.0, found.1, encode_lower-decode_pairs 0 t found.0 is.digits pairs)

-- what a slice's decoding answers of such a text
pub decoded : (t : List ℕ) → IsLowerHex 32 t → (r : Result (Unit {0}) FromHexError) (out : List ℕ)
    → MatchResult (decode_sized t 16) (λ bytes. (r ≡ Ok tt) × (out ≡ bytes)) (λ e. r ≡ Err e) → (r ≡ Ok tt) × (encode_lower out ≡ t)
decoded t is r out m =
    let d = decodes t is in
    let k : (r ≡ Ok tt) × (out ≡ d.0) = rw (d.1) at m in
    (k.0, ap encode_lower k.1 ∙ d.2)

-- ---- what some bytes are written as
