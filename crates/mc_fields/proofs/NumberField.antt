-- Decimal numbers from 1 to a limit are read by their machine.
use Rattle.std.proofs.Common.{cond, subst, length, get_or, drop, Option, Some, None, ◌≡◌, ℕ, zero, suc, ◌+◌, ◌*◌, ◌-◌, ◌/◌, ◌%◌, ◌^◌, ◌≤◌, ◌<◌, true, false, List, [], ◌∷◌, ◌++◌, refl, sym, ap, ◌∙◌, append_assoc, arith, inl, inr}
use Rattle.std.specs.Prelude.{◌&&◌, nat_lt, nat_le, decimal}
use Rattle.std.proofs.lemmas.Bool.{cases_lt, and_parts, and_from, and_left, ltb-true, lt-ltb, leb-true, le-leb, cases_Bool}
use Rattle.std.proofs.lemmas.List.{append-nil, drop_all}
use Rattle.std.proofs.lemmas.Option.{same_Some}
use Rattle.std.proofs.lemmas.Fmt.{decimal_digit, decimal_step, decimal_by_steps}
use Rattle.mc_fields.specs.Reading.{Machine, is_decimal_digit, number_machine, number_at, field_of}
use Rattle.mc_fields.specs.Texts.{IsNumber}
use Rattle.mc_fields.proofs.Formats.{Reads}
use Rattle.mc_fields.proofs.FieldLoops.{drop_at_place}
use Rattle.mc_fields.proofs.FieldLaws.{Accepts, after, IsLive, machine_reads, with_stop}

abbrev nothing : Option ℕ
nothing = None

-- what was read of a number: nothing, or the number so far
abbrev spelled : ℕ → List ℕ
spelled zero = []
spelled (suc v) = decimal (suc v)

-- a digit that the machine takes
pub record IsTaken (most v c : ℕ) : Type 0 where
  pub low : 48 ≤ c
  pub high : c ≤ 57
  pub some : 0 < 10 * v + (c - 48)
  pub within : 10 * v + (c - 48) ≤ most

pub taken : (most stop v c : ℕ) → (number_machine most stop).may v c ≡ true → IsTaken most v c
taken most stop v c e =
    let two = and_parts (nat_le 48 c && nat_le c 57) (nat_lt 0 (10 * v + (c - 48)) && nat_le (10 * v + (c - 48)) most) e in
    let one = and_parts (nat_le 48 c) (nat_le c 57) two.0 in
    let three = and_parts (nat_lt 0 (10 * v + (c - 48))) (nat_le (10 * v + (c - 48)) most) two.1 in
    record { low = leb-true 48 c one.0; high = leb-true c 57 one.1; some = ltb-true 0 (10 * v + (c - 48)) three.0; within = leb-true (10 * v + (c - 48)) most three.1 }

takes : (most stop v c : ℕ) → IsTaken most v c → (number_machine most stop).may v c ≡ true
takes most stop v c t = and_from _ _ (and_from _ _ (le-leb 48 c t.low) (le-leb c 57 t.high)) (and_from _ _ (lt-ltb 0 (10 * v + (c - 48)) t.some) (le-leb (10 * v + (c - 48)) most t.within))

spelled_some : (v : ℕ) → 0 < v → spelled v ≡ decimal v
spelled_some zero h = absurd (omega arith)
spelled_some (suc v) h = refl

spelled_step : (most v c : ℕ) → most < 2 ^ 64 → IsTaken most v c → spelled (10 * v + (c - 48)) ≡ spelled v ++ c ∷ []
spelled_step most zero c small t =
    let n : ℕ = 10 * zero + (c - 48) in
    let one : decimal n ≡ (48 + n) ∷ [] = decimal_digit n (omega (arith, t.low, t.high)) in
    let back : 48 + n ≡ c = omega (arith, t.low) in
    spelled_some n t.some ∙ one ∙ ap (λ (d : ℕ). d ∷ []) back
spelled_step most (suc v) c small t =
    let n : ℕ = 10 * suc v + (c - 48) in
    let step : decimal n ≡ decimal (n / 10) ++ ((48 + n % 10) ∷ []) = decimal_step n (omega arith) (omega (arith, t.within)) in
    let front : n / 10 ≡ suc v = omega (arith, t.low, t.high) in
    let last : 48 + n % 10 ≡ c = omega (arith, t.low, t.high) in
    spelled_some n t.some ∙ step ∙ rw (front, last) refl

number_there : (most stop v : ℕ) (p : List ℕ) → most < 2 ^ 64 → v ≤ most → Accepts (number_machine most stop) v p
    → (decimal (after (number_machine most stop) v p) ≡ spelled v ++ p) × IsNumber most (after (number_machine most stop) v p)
number_there most stop v [] small le a =
    let some : 0 < v = ltb-true 0 v a in
    (sym (spelled_some v some) ∙ sym (append-nil (spelled v)), record { some = some; within = le })
number_there most stop v (c ∷ p) small le a =
    let t = taken most stop v c a.0 in
    let h = number_there most stop (10 * v + (c - 48)) p small t.within a.1 in
    (h.0 ∙ ap (λ (l : List ℕ). l ++ p) (spelled_step most v c small t) ∙ append_assoc (spelled v) (c ∷ []) p, h.1)

-- the bytes take the machine from the state, to no end yet
abbrev Passes : {S : Type 0} → Machine S → S → List ℕ → Type 0
Passes m s [] = Unit {0}
Passes m s (c ∷ cs) = (m.may s c ≡ true) × Passes m (m.next s c) cs

passes_snoc : {S : Type 0} (m : Machine S) (s : S) (p : List ℕ) (c : ℕ) → Passes m s p → m.may (after m s p) c ≡ true → Passes m s (p ++ c ∷ []) × (after m s (p ++ c ∷ []) ≡ m.next (after m s p) c)
passes_snoc m s [] c h may = ((may, tt), refl)
passes_snoc m s (d ∷ p) c h may = let w = passes_snoc m (m.next s d) p c h.1 may in ((h.0, w.0), w.1)

accepts_at_end : {S : Type 0} (m : Machine S) (s : S) (p : List ℕ) → Passes m s p → m.done (after m s p) ≡ true → Accepts m s p
accepts_at_end m s [] h e = e
accepts_at_end m s (c ∷ p) h e = (h.0, accepts_at_end m (m.next s c) p h.1 e)

-- the digits of a number take the machine to it
record IsPassed (most stop n : ℕ) (ds : List ℕ) : Type 0 where
  passes : Passes (number_machine most stop) 0 ds
  ends : after (number_machine most stop) 0 ds ≡ n

digits_pass : (most stop n : ℕ) → n < 2 ^ 64 → IsNumber most n → IsPassed most stop n (decimal n)
digits_pass most stop n small = decimal_by_steps (λ k ds. IsNumber most k → IsPassed most stop k ds)
    (λ k lt is. record {
      passes = (takes most stop 0 (48 + k) (record { low = omega arith; high = omega arith; some = omega (arith, is.some); within = omega (arith, is.within) }), tt);
      ends = omega arith;
    })
    (λ k ds ge before is.
    let b = before (record { some = omega arith; within = omega (arith, is.within) }) in
    let front : after (number_machine most stop) 0 ds ≡ k / 10 = b.ends in
    let may : (number_machine most stop).may (after (number_machine most stop) 0 ds) (48 + k % 10) ≡ true =
    takes most stop (after (number_machine most stop) 0 ds) (48 + k % 10) (record { low = omega arith; high = omega arith; some = omega (arith, front, is.some); within = omega (arith, front, is.within) }) in
    let w = passes_snoc (number_machine most stop) 0 ds (48 + k % 10) b.passes may in
    record { passes = w.0; ends = w.1 ∙ omega (arith, front) })
    n small

number_back : (most stop n : ℕ) → most < 2 ^ 64 → IsNumber most n → Accepts (number_machine most stop) 0 (decimal n) × (after (number_machine most stop) 0 (decimal n) ≡ n)
number_back most stop n small is =
    let p = digits_pass most stop n (omega (arith, is.within)) is in
    (accepts_at_end (number_machine most stop) 0 (decimal n) p.passes (lt-ltb 0 (after (number_machine most stop) 0 (decimal n)) (omega (arith, p.ends, is.some))), p.ends)

number_lives : (most stop : ℕ) → is_decimal_digit stop ≡ false → 0 < most → IsLive (number_machine most stop) (λ v. v ≤ most)
number_lives most stop bar some = record {
  bar = λ v. and_left (is_decimal_digit stop) (nat_lt 0 (10 * v + (stop - 48)) && nat_le (10 * v + (stop - 48)) most) bar;
  keeps = λ v c good may. (taken most stop v c may).within;
  ends = λ v good. elim (cases_lt 0 v) [
    | inl lt ↦ ([], lt-ltb 0 v lt)
    | inr le ↦
        let none : v ≡ 0 = omega arith in
        (49 ∷ [], (takes most stop v 49 (record { low = omega arith; high = omega arith; some = omega arith; within = omega (arith, none) }), lt-ltb 0 (10 * v + (49 - 48)) (omega arith)))
  ];
}

pub number_reads : (most stop : ℕ) → is_decimal_digit stop ≡ false → 0 < most → most < 2 ^ 64 → Reads (with_stop stop decimal) (IsNumber most) (number_at most stop)
number_reads most stop bar some small = machine_reads (number_machine most stop) (λ v. v ≤ most) (number_lives most stop bar some) 0 (omega arith) decimal (IsNumber most) (record {
  there = λ p a. number_there most stop 0 p small (omega arith) a;
  back = λ n is. number_back most stop n small is;
})

-- ---- a number whole

accepted_is_whole : (m : Machine ℕ) (s : ℕ) (p : List ℕ) (t : ℕ) → field_of m s p ≡ Some t → Accepts m s p × (after m s p ≡ t)
unfolding field_of
accepted_is_whole m s [] t e = elim (cases_Bool (m.done s)) [
  | inl done ↦ (done, let k : Some s ≡ Some t = rw done at e in same_Some s t k)
  | inr open' ↦ absurd (let k : nothing ≡ Some t = rw open' at e in cc)
]
accepted_is_whole m s (c ∷ p) t e = elim (cases_Bool (m.may s c)) [
  | inl may ↦ let w = accepted_is_whole m (m.next s c) p t (rw may at e) in ((may, w.0), w.1)
  | inr not ↦ absurd (let k : nothing ≡ Some t = rw not at e in cc)
]

whole_is_accepted : (m : Machine ℕ) (s : ℕ) (p : List ℕ) → Accepts m s p → field_of m s p ≡ Some (after m s p)
unfolding field_of
whole_is_accepted m s [] a = rw a refl
whole_is_accepted m s (c ∷ p) a = rw (a.0) (whole_is_accepted m (m.next s c) p a.1)

pub number_whole : (most n : ℕ) (bytes : List ℕ) → most < 2 ^ 64 → field_of (number_machine most 0) 0 bytes ≡ Some n → IsNumber most n × (bytes ≡ decimal n)
number_whole most n bytes small e =
    let w = accepted_is_whole (number_machine most 0) 0 bytes n e in
    let h = number_there most 0 0 bytes small (omega arith) w.0 in
    let P : ℕ → Type 0 = λ k. IsNumber most k × (bytes ≡ decimal k) in
    subst P w.1 (h.1, sym h.0)

pub no_number : (most n : ℕ) (bytes : List ℕ) → most < 2 ^ 64 → field_of (number_machine most 0) 0 bytes ≡ None → IsNumber most n → bytes ≡ decimal n → ⊥
no_number most n bytes small e is spelled_so =
    let b = number_back most 0 n small is in
    let k : nothing ≡ Some (after (number_machine most 0) 0 (decimal n)) = sym e ∙ ap (field_of (number_machine most 0) 0) spelled_so ∙ whole_is_accepted (number_machine most 0) 0 (decimal n) b.0 in
    cc

-- the steps of the loop over the bytes of a number
pub whole_goes_on : (most v c : ℕ) (bytes : List ℕ) (i : ℕ) (total : Option ℕ) → i < length bytes → get_or bytes i 0 ≡ c → (number_machine most 0).may v c ≡ true
    → field_of (number_machine most 0) v (drop i bytes) ≡ total → field_of (number_machine most 0) (10 * v + (c - 48)) (drop (i + 1) bytes) ≡ total
unfolding field_of
whole_goes_on most v c bytes i total lt is may e =
    let k : field_of (number_machine most 0) v (drop i bytes) ≡ field_of (number_machine most 0) (10 * v + (c - 48)) (drop (i + 1) bytes) = rw (drop_at_place bytes i lt, is, may) refl in
    sym k ∙ e

pub whole_stops : (most v c : ℕ) (bytes : List ℕ) (i : ℕ) (total : Option ℕ) → i < length bytes → get_or bytes i 0 ≡ c → (number_machine most 0).may v c ≡ false
    → field_of (number_machine most 0) v (drop i bytes) ≡ total → total ≡ None
unfolding field_of
whole_stops most v c bytes i total lt is not e = sym e ∙ rw (drop_at_place bytes i lt, is, not) refl

pub whole_ends : (most v : ℕ) (bytes : List ℕ) (i : ℕ) (total : Option ℕ) → length bytes ≤ i → field_of (number_machine most 0) v (drop i bytes) ≡ total → total ≡ cond (nat_lt 0 v) (Some v) None
unfolding field_of
whole_ends most v bytes i total le e = sym e ∙ rw (drop_all i bytes le) refl
