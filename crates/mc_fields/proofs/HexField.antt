-- Bytes as pairs of hex digits in lower case.
use Rattle.std.proofs.Common.{◌≡◌, ℕ, zero, suc, ◌+◌, ◌*◌, ◌-◌, ◌/◌, ◌%◌, ◌≤◌, ◌<◌, List, [], ◌∷◌, ◌++◌, length, Option, Some, None, refl, sym, ap, ◌∙◌, subst, arith, inl, inr}
use Rattle.std.specs.Prelude.{◌⊎◌, ◌&&◌, nat_le, slice_index}
use Rattle.std.specs.List.{AllByRecursion}
use Rattle.std.proofs.lemmas.Bool.{cases_Bool, and_parts, leb-true}
use Rattle.hex.specs.Hex.{lower_digits, encode_with, encode_lower}
use Rattle.mc_fields.specs.Reading.{digit_of, digit_at, hex_at}
use Rattle.mc_fields.proofs.Fronts.{common, common-cons_other}
use Rattle.mc_fields.proofs.Formats.{Reads, done, failed, done_is, not_both, pair_reads, map_reads, pair_spelling, PairFits}
use Rattle.mc_fields.proofs.FieldLaws.{err_is}

-- ---- one digit

abbrev none : Option ℕ
none = None

unfoldable pub glyph : ℕ → ℕ
glyph v = slice_index lower_digits v

abbrev pub digit_spelling : ℕ → List ℕ
digit_spelling v = glyph v ∷ []

abbrev pub IsDigit : ℕ → Type 0
IsDigit v = v < 16

pub digit_of-glyph : (v : ℕ) → v < 16 → digit_of (glyph v) ≡ Some v
unfolding digit_of glyph
digit_of-glyph zero lt = refl
digit_of-glyph (suc zero) lt = refl
digit_of-glyph (suc (suc zero)) lt = refl
digit_of-glyph (suc (suc (suc zero))) lt = refl
digit_of-glyph (suc (suc (suc (suc zero)))) lt = refl
digit_of-glyph (suc (suc (suc (suc (suc zero))))) lt = refl
digit_of-glyph (suc (suc (suc (suc (suc (suc zero)))))) lt = refl
digit_of-glyph (suc (suc (suc (suc (suc (suc (suc zero))))))) lt = refl
digit_of-glyph (suc (suc (suc (suc (suc (suc (suc (suc zero)))))))) lt = refl
digit_of-glyph (suc (suc (suc (suc (suc (suc (suc (suc (suc zero))))))))) lt = refl
digit_of-glyph (suc (suc (suc (suc (suc (suc (suc (suc (suc (suc zero)))))))))) lt = refl
digit_of-glyph (suc (suc (suc (suc (suc (suc (suc (suc (suc (suc (suc zero))))))))))) lt = refl
digit_of-glyph (suc (suc (suc (suc (suc (suc (suc (suc (suc (suc (suc (suc zero)))))))))))) lt = refl
digit_of-glyph (suc (suc (suc (suc (suc (suc (suc (suc (suc (suc (suc (suc (suc zero))))))))))))) lt = refl
digit_of-glyph (suc (suc (suc (suc (suc (suc (suc (suc (suc (suc (suc (suc (suc (suc zero)))))))))))))) lt = refl
digit_of-glyph (suc (suc (suc (suc (suc (suc (suc (suc (suc (suc (suc (suc (suc (suc (suc zero))))))))))))))) lt = refl
digit_of-glyph (suc (suc (suc (suc (suc (suc (suc (suc (suc (suc (suc (suc (suc (suc (suc (suc v)))))))))))))))) lt = absurd (omega arith)

glyph_low : (d : ℕ) → d < 10 → glyph d ≡ 48 + d
unfolding glyph
glyph_low zero lt = refl
glyph_low (suc zero) lt = refl
glyph_low (suc (suc zero)) lt = refl
glyph_low (suc (suc (suc zero))) lt = refl
glyph_low (suc (suc (suc (suc zero)))) lt = refl
glyph_low (suc (suc (suc (suc (suc zero))))) lt = refl
glyph_low (suc (suc (suc (suc (suc (suc zero)))))) lt = refl
glyph_low (suc (suc (suc (suc (suc (suc (suc zero))))))) lt = refl
glyph_low (suc (suc (suc (suc (suc (suc (suc (suc zero)))))))) lt = refl
glyph_low (suc (suc (suc (suc (suc (suc (suc (suc (suc zero))))))))) lt = refl
glyph_low (suc (suc (suc (suc (suc (suc (suc (suc (suc (suc v)))))))))) lt = absurd (omega arith)

glyph_high : (d : ℕ) → d < 6 → glyph (10 + d) ≡ 97 + d
unfolding glyph
glyph_high zero lt = refl
glyph_high (suc zero) lt = refl
glyph_high (suc (suc zero)) lt = refl
glyph_high (suc (suc (suc zero))) lt = refl
glyph_high (suc (suc (suc (suc zero)))) lt = refl
glyph_high (suc (suc (suc (suc (suc zero))))) lt = refl
glyph_high (suc (suc (suc (suc (suc (suc v)))))) lt = absurd (omega arith)

some_is : (x y : ℕ) → Some x ≡ Some y → x ≡ y
some_is x y e = cc

pub glyph-digit_of : (c v : ℕ) → digit_of c ≡ Some v → (glyph v ≡ c) × (v < 16)
unfolding digit_of
glyph-digit_of c v e = elim (cases_Bool (nat_le 48 c && nat_le c 57)) [
  | inl low ↦
      let two = and_parts (nat_le 48 c) (nat_le c 57) low in
      let ge : 48 ≤ c = leb-true 48 c two.0 in
      let le : c ≤ 57 = leb-true c 57 two.1 in
      let k : Some (c - 48) ≡ Some v = rw low at e in
      let same : c - 48 ≡ v = some_is (c - 48) v k in
      (glyph_low v (omega arith) ∙ omega arith, omega arith)
  | inr not_low ↦ elim (cases_Bool (nat_le 97 c && nat_le c 102)) [
    | inl high ↦
        let two = and_parts (nat_le 97 c) (nat_le c 102) high in
        let ge : 97 ≤ c = leb-true 97 c two.0 in
        let le : c ≤ 102 = leb-true c 102 two.1 in
        let k : Some (c - 87) ≡ Some v = rw (not_low, high) at e in
        let same : c - 87 ≡ v = some_is (c - 87) v k in
        (ap glyph (let s : v ≡ 10 + (v - 10) = omega arith in s) ∙ glyph_high (v - 10) (omega arith) ∙ omega arith, omega arith)
    | inr not_high ↦ absurd (let k : none ≡ Some v = rw (not_low, not_high) at e in cc)
  ]
]

cases_option : (o : Option ℕ) → ((v : ℕ) × (o ≡ Some v)) ⊎ (o ≡ None)
cases_option None = inr refl
cases_option (Some v) = inl (v, refl)

digit_sound : (bytes : List ℕ) (a : ℕ) (rest : List ℕ) → digit_at bytes ≡ done (a, rest) → (bytes ≡ digit_spelling a ++ rest) × IsDigit a
unfolding digit_at
digit_sound [] a rest e = absurd cc
digit_sound (c ∷ cs) a rest e = elim (cases_option (digit_of c)) [
  | inl w ↦
      let k : done (w.0, cs) ≡ done (a, rest) = rw (w.1) at e in
      let g = glyph-digit_of c w.0 w.1 in
      let P : ℕ × List ℕ → Type 0 = λ y. (c ∷ cs ≡ glyph y.0 ∷ y.1) × (y.0 < 16) in
      subst P (done_is (w.0, cs) (a, rest) k) (ap (λ (x : ℕ). x ∷ cs) (sym g.0), g.1)
  | inr n ↦ absurd (let k : failed {A = ℕ × List ℕ} (suc (length cs)) ≡ done (a, rest) = rw n at e in cc)
]

digit_again : (a : ℕ) (rest : List ℕ) → IsDigit a → digit_at (digit_spelling a ++ rest) ≡ done (a, rest)
unfolding digit_at
digit_again a rest f = rw (digit_of-glyph a f) refl

-- where no digit stands, no digit's spelling goes on
digit_stops : (c : ℕ) (cs : List ℕ) (a : ℕ) (r : List ℕ) → a < 16 → digit_of c ≡ None → common (c ∷ cs) (glyph a ∷ r) ≡ 0
digit_stops c cs a r lt n = common-cons_other c (glyph a) cs r (λ e. let k : none ≡ Some a = sym n ∙ ap digit_of e ∙ digit_of-glyph a lt in cc)

digit_left : (c : ℕ) (cs : List ℕ) (left : ℕ) → digit_at (c ∷ cs) ≡ failed left → (digit_of c ≡ None) × (left ≡ suc (length cs))
unfolding digit_at
digit_left c cs left e = elim (cases_option (digit_of c)) [
  | inl w ↦ absurd (let k : done (w.0, cs) ≡ failed left = rw (w.1) at e in cc)
  | inr n ↦ (n, let k : failed {A = ℕ × List ℕ} (suc (length cs)) ≡ failed left = rw n at e in sym (err_is {A = ℕ × List ℕ} (suc (length cs)) left k))
]

digit_at_end : (left : ℕ) → digit_at [] ≡ failed left → left ≡ 0
unfolding digit_at
digit_at_end left e = sym (err_is {A = ℕ × List ℕ} 0 left e)

digit_some : (bytes : List ℕ) (left : ℕ) → digit_at bytes ≡ failed left → (a : ℕ) × IsDigit a × ((r : List ℕ) → common bytes (digit_spelling a ++ r) + left ≡ length bytes)
digit_some [] left e = (0, omega arith, λ r. omega (arith, digit_at_end left e))
digit_some (c ∷ cs) left e =
    let d = digit_left c cs left e in
    (0, omega arith, λ r. omega (arith, d.1, digit_stops c cs 0 r (omega arith) d.0))

digit_none : (bytes : List ℕ) (left : ℕ) → digit_at bytes ≡ failed left → (a : ℕ) (r : List ℕ) → IsDigit a → common bytes (digit_spelling a ++ r) + left ≤ length bytes
digit_none [] left e a r f = omega (arith, digit_at_end left e)
digit_none (c ∷ cs) left e a r f =
    let d = digit_left c cs left e in
    omega (arith, d.1, digit_stops c cs a r f d.0)

pub digit_reads : Reads digit_spelling IsDigit digit_at
digit_reads = record { sound = digit_sound; again = digit_again; some = digit_some; none = digit_none }

-- ---- bytes

abbrev pub AreBytes : ℕ → List ℕ → Type 0
AreBytes n bytes = (length bytes ≡ n) × AllByRecursion (λ b. b < 256) bytes

nil_from : (bytes : List ℕ) → length bytes ≡ 0 → bytes ≡ []
nil_from [] e = refl
nil_from (b ∷ bytes) e = absurd (omega arith)

no_bytes : Reads encode_lower (AreBytes 0) (hex_at 0)
unfolding hex_at encode_with
no_bytes = record {
  sound = λ bytes a rest e.
      let P : List ℕ × List ℕ → Type 0 = λ y. (bytes ≡ encode_lower y.0 ++ y.1) × AreBytes 0 y.0 in
      subst P (done_is ([], bytes) (a, rest) e) (refl, (refl, tt));
  again = λ a rest f. rw (nil_from a f.0) refl;
  some = λ bytes left e. absurd (not_both ([], bytes) left e);
  none = λ bytes left e a r f. absurd (not_both ([], bytes) left e);
}

pub zeros : ℕ → List ℕ
zeros zero = []
zeros (suc n) = 0 ∷ zeros n

pub AreBytes-zeros : (n : ℕ) → AreBytes n (zeros n)
unfolding zeros
AreBytes-zeros zero = (refl, tt)
AreBytes-zeros (suc n) = let h = AreBytes-zeros n in (ap suc h.0, (omega arith, h.1))

abbrev Digits : Type 0
Digits = ℕ × (ℕ × List ℕ)

joined : Digits → List ℕ
joined x = (x.0 * 16 + x.1.0) ∷ x.1.1

parted : List ℕ → Digits
parted [] = (0, (0, []))
parted (b ∷ bytes) = (b / 16, (b % 16, bytes))

abbrev digits_spelling : Digits → List ℕ
digits_spelling = pair_spelling digit_spelling (pair_spelling digit_spelling encode_lower)

abbrev AreDigits : ℕ → Digits → Type 0
AreDigits n = PairFits IsDigit (PairFits IsDigit (AreBytes n))

joined_there : (n : ℕ) (x : Digits) → AreDigits n x → (encode_lower (joined x) ≡ digits_spelling x) × AreBytes (suc n) (joined x)
unfolding joined encode_with glyph
joined_there n (high, (low, bytes)) f =
    let front : (high * 16 + low) / 16 ≡ high = omega (arith, f.0, f.1.0) in
    let last : (high * 16 + low) % 16 ≡ low = omega (arith, f.0, f.1.0) in
    (rw (front, last) refl, (ap suc f.1.1.0, (omega (arith, f.0, f.1.0), f.1.1.1)))

joined_back : (n : ℕ) (bytes : List ℕ) → AreBytes (suc n) bytes → (digits_spelling (parted bytes) ≡ encode_lower bytes) × AreDigits n (parted bytes) × (joined (parted bytes) ≡ bytes)
unfolding joined parted encode_with glyph
joined_back n [] f = absurd (omega (arith, f.0))
joined_back n (b ∷ bytes) f =
    let lt : b < 256 = f.1.0 in
    let len : length bytes ≡ n = omega (arith, f.0) in
    (refl, (omega arith, (omega arith, (len, f.1.1))), ap (λ (x : ℕ). x ∷ bytes) (omega arith))

pub hex_reads : (n : ℕ) → Reads encode_lower (AreBytes n) (hex_at n)
unfolding hex_at joined
hex_reads zero = no_bytes
hex_reads (suc n) =
    map_reads (pair_reads digit_reads (pair_reads digit_reads (hex_reads n) (zeros n) (AreBytes-zeros n)) (0, zeros n) (omega arith, AreBytes-zeros n))
    encode_lower (AreBytes (suc n)) (hex_at (suc n)) joined parted (λ bytes. refl) (joined_there n) (joined_back n)
