-- What the values of digits are, by the ranges of their bytes.
use Rattle.std.proofs.Common.{◌≡◌, ℕ, ◌+◌, ◌-◌, ◌%◌, ◌<◌, ◌≤◌, Some, None, refl, ap, ◌∙◌, inl, inr, arith}
use Rattle.std.specs.Prelude.{◌⊎◌}
use Rattle.std.proofs.lemmas.Bool.{le-leb, lt-leb, cases_lt}
use Rattle.mc_fields.specs.Reading.{digit_of}

decimal_in : (c : ℕ) → 48 ≤ c → c ≤ 57 → digit_of c ≡ Some (c - 48)
unfolding digit_of
decimal_in c ge le = rw (le-leb 48 c ge, le-leb c 57 le) refl

letter_in : (c : ℕ) → 97 ≤ c → c ≤ 102 → digit_of c ≡ Some (c - 87)
unfolding digit_of
letter_in c ge le = rw (le-leb 48 c (omega (arith, ge)), lt-leb c 57 (omega (arith, ge)), le-leb 97 c ge, le-leb c 102 le) refl

below_decimals : (c : ℕ) → c < 48 → digit_of c ≡ None
unfolding digit_of
below_decimals c lt = rw (lt-leb 48 c lt, lt-leb 97 c (omega (arith, lt))) refl

between : (c : ℕ) → 57 < c → c < 97 → digit_of c ≡ None
unfolding digit_of
between c gt lt = rw (le-leb 48 c (omega (arith, gt)), lt-leb c 57 gt, lt-leb 97 c lt) refl

above_letters : (c : ℕ) → 102 < c → digit_of c ≡ None
unfolding digit_of
above_letters c gt = rw (le-leb 48 c (omega (arith, gt)), lt-leb c 57 (omega (arith, gt)), le-leb 97 c (omega (arith, gt)), lt-leb c 102 gt) refl

pub decimal_is : (c : ℕ) → c < 256 → (c + 208) % 256 < 10 → digit_of c ≡ Some ((c + 208) % 256)
decimal_is c fits lt = decimal_in c (omega (arith, fits, lt)) (omega (arith, fits, lt)) ∙ ap (λ (v : ℕ). Some v) (omega (arith, fits, lt))

pub letter_is : (c : ℕ) → c < 256 → 10 ≤ (c + 169) % 256 → (c + 169) % 256 < 16 → digit_of c ≡ Some ((c + 169) % 256)
letter_is c fits ge lt = letter_in c (omega (arith, fits, ge, lt)) (omega (arith, fits, ge, lt)) ∙ ap (λ (v : ℕ). Some v) (omega (arith, fits, ge, lt))

pub none_is : (c : ℕ) → c < 256 → 10 ≤ (c + 208) % 256 → ((c + 169) % 256 < 10) ⊎ (16 ≤ (c + 169) % 256) → digit_of c ≡ None
none_is c fits ge out = elim (cases_lt c 48) [
  | inl low ↦ below_decimals c low
  | inr high ↦ elim (cases_lt c 97) [
    | inl lt ↦ between c (omega (arith, fits, ge, high)) lt
    | inr le ↦ above_letters c (elim out [
      | inl small ↦ omega (arith, fits, small, le)
      | inr big ↦ omega (arith, fits, big, le)
    ])
  ]
]
