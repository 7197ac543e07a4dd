-- What a reader of a field does, and readers one after the other.
use Rattle.std.proofs.Common.{◌≡◌, ℕ, ◌+◌, ◌≤◌, List, [], ◌++◌, length, Result, Ok, Err, refl, sym, ap, ◌∙◌, subst, append_assoc, arith, inl, inr}
use Rattle.std.specs.Prelude.{◌⊎◌}
use Rattle.std.proofs.lemmas.List.{append-nil, length-append}
use Rattle.mc_fields.specs.Reading.{Read, ◌>>=◌, pair_at, map_read}
use Rattle.mc_fields.proofs.Fronts.{common, common-append, longer, shorter, parted, apart}

abbrev pub done : {A : Type 0} → A → Result A ℕ
done x = Ok x

abbrev pub failed : {A : Type 0} → ℕ → Result A ℕ
failed n = Err n

-- A reader reads the values that fit from their spelling, and nothing else. Where it fails, the bytes
-- have as much in common with the spelling of some value as it says, whatever follows that spelling,
-- and no more with that of any other.
pub record Reads {A : Type 0} (spell : A → List ℕ) (Fits : A → Type 0) (read : List ℕ → Read A) : Type 0 where
  pub sound : (bytes : List ℕ) (a : A) (rest : List ℕ) → read bytes ≡ done (a, rest) → (bytes ≡ spell a ++ rest) × Fits a
  pub again : (a : A) (rest : List ℕ) → Fits a → read (spell a ++ rest) ≡ done (a, rest)
  pub some : (bytes : List ℕ) (left : ℕ) → read bytes ≡ failed left → (a : A) × Fits a × ((r : List ℕ) → common bytes (spell a ++ r) + left ≡ length bytes)
  pub none : (bytes : List ℕ) (left : ℕ) → read bytes ≡ failed left → (a : A) (r : List ℕ) → Fits a → common bytes (spell a ++ r) + left ≤ length bytes

-- the value of a step that did not fail
pub bind_ok : {A B : Type 0} (r : Result A ℕ) (f : A → Result B ℕ) (y : B) → (r >>= f) ≡ Ok y → (x : A) × (r ≡ Ok x) × (f x ≡ Ok y)
bind_ok (Ok x) f y e = (x, refl, e)
bind_ok (Err d) f y e = absurd cc

-- where the fault of two steps is
pub bind_err : {A B : Type 0} (r : Result A ℕ) (f : A → Result B ℕ) (n : ℕ) → (r >>= f) ≡ Err n → (r ≡ Err n) ⊎ ((x : A) × (r ≡ Ok x) × (f x ≡ Err n))
bind_err (Ok x) f n e = inr (x, refl, e)
bind_err (Err d) f n e = inl (let k : d ≡ n = cc in ap failed k)

pub done_is : {A : Type 0} (x y : A) → done x ≡ done y → x ≡ y
done_is x y e = cc

pub not_both : {A : Type 0} (x : A) (n : ℕ) → done x ≡ failed n → ⊥
not_both x n e = cc

-- another value's spelling has no more in common with what was read
pub others_part : {A : Type 0} {spell : A → List ℕ} {Fits : A → Type 0} {read : List ℕ → Read A} → Reads spell Fits read
    → (a b : A) (x y : List ℕ) → Fits a → Fits b → (a ≡ b) ⊎ (common (spell a ++ x) (spell b ++ y) ≤ length (spell a))
others_part {A = A} {spell = spell} {Fits = Fits} {read = read} reads a b x y fa fb = elim (apart (spell a) (spell b) x y) [
  | longer z e ↦ inl (ap (λ (p : A × List ℕ). p.0) (done_is (a, z) (b, []) (sym (reads.again a z fa) ∙ ap read (sym e ∙ sym (append-nil (spell b))) ∙ reads.again b [] fb)))
  | shorter z e ↦ inl (ap (λ (p : A × List ℕ). p.0) (done_is (a, []) (b, z) (sym (reads.again a [] fa) ∙ ap read (append-nil (spell a) ∙ e) ∙ reads.again b z fb)))
  | parted h ↦ inr h
]

abbrev pub pair_spelling : {A B : Type 0} → (A → List ℕ) → (B → List ℕ) → A × B → List ℕ
pair_spelling first second x = first x.0 ++ second x.1

abbrev pub PairFits : {A B : Type 0} → (A → Type 0) → (B → Type 0) → A × B → Type 0
PairFits First Second x = First x.0 × Second x.1

length_parts : (bytes s rest : List ℕ) → bytes ≡ s ++ rest → length bytes ≡ length s + length rest
length_parts bytes s rest e = ap length e ∙ length-append s rest

pair_common : (bytes s rest t r : List ℕ) → bytes ≡ s ++ rest → common bytes ((s ++ t) ++ r) ≡ length s + common rest (t ++ r)
pair_common bytes s rest t r e = rw (e, append_assoc s t r) (common-append s rest (t ++ r))

pub pair_reads : {A B : Type 0} {spell_a : A → List ℕ} {FitsA : A → Type 0} {read_a : List ℕ → Read A} {spell_b : B → List ℕ} {FitsB : B → Type 0} {read_b : List ℕ → Read B}
    → Reads spell_a FitsA read_a → Reads spell_b FitsB read_b → (b : B) → FitsB b → Reads (pair_spelling spell_a spell_b) (PairFits FitsA FitsB) (pair_at read_a read_b)
pair_reads {A = A} {B = B} {spell_a = spell_a} {FitsA = FitsA} {read_a = read_a} {spell_b = spell_b} {FitsB = FitsB} {read_b = read_b} ra rb b0 fb0 = record {
  sound = λ bytes x rest e.
      let one = bind_ok (read_a bytes) (λ a. read_b a.1 >>= λ b. Ok ((a.0, b.0), b.1)) (x, rest) e in
      let two = bind_ok (read_b one.0.1) (λ b. Ok ((one.0.0, b.0), b.1)) (x, rest) one.2 in
      let sa = ra.sound bytes one.0.0 one.0.1 one.1 in
      let sb = rb.sound one.0.1 two.0.0 two.0.1 two.1 in
      let made : (A × B) × List ℕ = ((one.0.0, two.0.0), two.0.1) in
      subst (λ (y : (A × B) × List ℕ). (bytes ≡ (spell_a y.0.0 ++ spell_b y.0.1) ++ y.1) × (FitsA y.0.0 × FitsB y.0.1)) (done_is made (x, rest) two.2)
      (sa.0 ∙ ap (λ (t : List ℕ). spell_a one.0.0 ++ t) sb.0 ∙ sym (append_assoc (spell_a one.0.0) (spell_b two.0.0) two.0.1), (sa.1, sb.1));
  again = λ x rest f.
      ap (pair_at read_a read_b) (append_assoc (spell_a x.0) (spell_b x.1) rest)
      ∙ rw (ra.again x.0 (spell_b x.1 ++ rest) f.0, rb.again x.1 rest f.1) refl;
  some = λ bytes left e. elim (bind_err (read_a bytes) (λ a. read_b a.1 >>= λ b. Ok ((a.0, b.0), b.1)) left e) [
    | inl e1 ↦
        let s = ra.some bytes left e1 in
        ((s.0, b0), (s.1, fb0), λ r. ap (λ (t : List ℕ). common bytes t + left) (append_assoc (spell_a s.0) (spell_b b0) r) ∙ s.2 (spell_b b0 ++ r))
    | inr w ↦ elim (bind_err (read_b w.0.1) (λ b. Ok ((w.0.0, b.0), b.1)) left w.2) [
      | inl e2 ↦
          let sa = ra.sound bytes w.0.0 w.0.1 w.1 in
          let s = rb.some w.0.1 left e2 in
          ((w.0.0, s.0), (sa.1, s.1), λ r. omega (arith, pair_common bytes (spell_a w.0.0) w.0.1 (spell_b s.0) r sa.0, length_parts bytes (spell_a w.0.0) w.0.1 sa.0, s.2 r))
      | inr v ↦ absurd (not_both ((w.0.0, v.0.0), v.0.1) left v.2)
    ]
  ];
  none = λ bytes left e x r f. elim (bind_err (read_a bytes) (λ a. read_b a.1 >>= λ b. Ok ((a.0, b.0), b.1)) left e) [
    | inl e1 ↦ rw (append_assoc (spell_a x.0) (spell_b x.1) r) (ra.none bytes left e1 x.0 (spell_b x.1 ++ r) f.0)
    | inr w ↦ elim (bind_err (read_b w.0.1) (λ b. Ok ((w.0.0, b.0), b.1)) left w.2) [
      | inl e2 ↦
          let sa = ra.sound bytes w.0.0 w.0.1 w.1 in
          let total : length bytes ≡ length (spell_a w.0.0) + length w.0.1 = length_parts bytes (spell_a w.0.0) w.0.1 sa.0 in
          let n : common w.0.1 (spell_b x.1 ++ r) + left ≤ length w.0.1 = rb.none w.0.1 left e2 x.1 r f.1 in
          elim (others_part ra w.0.0 x.0 w.0.1 (spell_b x.1 ++ r) sa.1 f.0) [
            | inl same ↦
                let P : A → Type 0 = λ a. common bytes ((spell_a a ++ spell_b x.1) ++ r) + left ≤ length bytes in
                subst P same (omega (arith, pair_common bytes (spell_a w.0.0) w.0.1 (spell_b x.1) r sa.0, total, n))
            | inr h ↦ rw (append_assoc (spell_a x.0) (spell_b x.1) r) (
                let h2 : common bytes (spell_a x.0 ++ (spell_b x.1 ++ r)) ≤ length (spell_a w.0.0) = rw sa.0 h in
                omega (arith, total, n, h2))
          ]
      | inr v ↦ absurd (not_both ((w.0.0, v.0.0), v.0.1) left v.2)
    ]
  ];
}

-- the same reader, whose values are seen otherwise
pub map_reads : {A B : Type 0} {spell_a : A → List ℕ} {FitsA : A → Type 0} {read_a : List ℕ → Read A} → Reads spell_a FitsA read_a
    → (spell_b : B → List ℕ) (FitsB : B → Type 0) (read_b : List ℕ → Read B) (f : A → B) (g : B → A)
    → ((bytes : List ℕ) → read_b bytes ≡ map_read f (read_a bytes))
    → ((a : A) → FitsA a → (spell_b (f a) ≡ spell_a a) × FitsB (f a))
    → ((b : B) → FitsB b → (spell_a (g b) ≡ spell_b b) × FitsA (g b) × (f (g b) ≡ b))
    → Reads spell_b FitsB read_b
map_reads {A = A} {B = B} {spell_a = spell_a} {FitsA = FitsA} {read_a = read_a} ra spell_b FitsB read_b f g same there back = record {
  sound = λ bytes b rest e.
      let one = bind_ok (read_a bytes) (λ x. Ok (f x.0, x.1)) (b, rest) (sym (same bytes) ∙ e) in
      let s = ra.sound bytes one.0.0 one.0.1 one.1 in
      let t = there one.0.0 s.1 in
      let made : B × List ℕ = (f one.0.0, one.0.1) in
      subst (λ (y : B × List ℕ). (bytes ≡ spell_b y.0 ++ y.1) × FitsB y.0) (done_is made (b, rest) one.2)
      (s.0 ∙ ap (λ (l : List ℕ). l ++ one.0.1) (sym t.0), t.1);
  again = λ b rest fb.
      let t = back b fb in
      let e : read_a (spell_b b ++ rest) ≡ done (g b, rest) = ap (λ (l : List ℕ). read_a (l ++ rest)) (sym t.0) ∙ ra.again (g b) rest t.1 in
      same (spell_b b ++ rest) ∙ ap (map_read f) e ∙ ap (λ (y : B). done (y, rest)) t.2;
  some = λ bytes left e. elim (bind_err (read_a bytes) (λ x. Ok (f x.0, x.1)) left (sym (same bytes) ∙ e)) [
    | inl e1 ↦
        let s = ra.some bytes left e1 in
        let t = there s.0 s.1 in
        (f s.0, t.1, λ r. ap (λ (l : List ℕ). common bytes (l ++ r) + left) t.0 ∙ s.2 r)
    | inr v ↦ absurd (not_both (f v.0.0, v.0.1) left v.2)
  ];
  none = λ bytes left e b r fb. elim (bind_err (read_a bytes) (λ x. Ok (f x.0, x.1)) left (sym (same bytes) ∙ e)) [
    | inl e1 ↦
        let t = back b fb in
        let P : List ℕ → Type 0 = λ l. common bytes (l ++ r) + left ≤ length bytes in
        subst P t.0 (ra.none bytes left e1 (g b) r t.1)
    | inr v ↦ absurd (not_both (f v.0.0, v.0.1) left v.2)
  ];
}
