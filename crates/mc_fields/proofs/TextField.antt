-- Texts of a kind are read by their machine.
use Rattle.std.proofs.Common.{◌≡◌, ℕ, suc, ◌+◌, ◌≤◌, ◌<◌, Bool, true, false, eqb, List, [], ◌∷◌, ◌++◌, length, get_or, refl, sym, ◌∙◌, subst, append_assoc, arith, inl, inr}
use Rattle.std.specs.Prelude.{◌&&◌, ◌==◌, nat_lt, if◌then◌else◌}
use Rattle.std.specs.List.{AllPass}
use Rattle.std.proofs.lemmas.Bool.{eq-eqb, ne_eqb, cases_eq, cases_Bool, and_parts, and_from, and_right, ltb-true, lt-ltb, leb-true, le-leb}
use Rattle.std.proofs.lemmas.List.{append-nil, length-append, nil_from_length, get_or_append_left, get_or_at}
use Rattle.std.proofs.lemmas.List.Elements.{All-nil, All-push, All-get_or}
use Rattle.mc_fields.specs.Texts.{IsText}
use Rattle.mc_fields.specs.Reading.{text_machine, text_at}
use Rattle.mc_fields.proofs.Formats.{Reads}
use Rattle.mc_fields.proofs.FieldLaws.{Accepts, after, IsLive, machine_reads, with_stop}

-- what the two tests of a text are like
pub record AreTests (first other : ℕ → Bool) (stop : ℕ) : Type 0 where
  pub first_bar : first stop ≡ false
  pub other_bar : other stop ≡ false
  pub stronger : (c : ℕ) → first c ≡ true → other c ≡ true

-- what was read of a text so far
pub record IsFront (first other : ℕ → Bool) (most : ℕ) (s : List ℕ) : Type 0 where
  pub short : length s ≤ most
  pub begins : 0 < length s → first (get_or s 0 0) ≡ true
  pub all : AllPass other s

snoc : (s : List ℕ) (c : ℕ) (p : List ℕ) → (s ++ c ∷ []) ++ p ≡ s ++ c ∷ p
snoc s c p = append_assoc s (c ∷ []) p

length-snoc : (s : List ℕ) (c : ℕ) → length (s ++ c ∷ []) ≡ suc (length s)
length-snoc s c = length-append s (c ∷ []) ∙ omega arith

byte_passes : (first other : ℕ → Bool) (stop : ℕ) → AreTests first other stop → (n c : ℕ) → (if n == 0 then first c else other c) ≡ true → other c ≡ true
byte_passes first other stop tests n c e = elim (cases_Bool (eqb n 0)) [
  | inl is0 ↦ tests.stronger c (let k : first c ≡ true = rw is0 at e in k)
  | inr not0 ↦ (let k : other c ≡ true = rw not0 at e in k)
]

bar_fails : (first other : ℕ → Bool) (stop : ℕ) → AreTests first other stop → (most : ℕ) (s : List ℕ) → (nat_lt (length s) most && (if length s == 0 then first stop else other stop)) ≡ false
bar_fails first other stop tests most s = and_right (nat_lt (length s) most) (if length s == 0 then first stop else other stop) (elim (cases_Bool (eqb (length s) 0)) [
  | inl is0 ↦ rw is0 tests.first_bar
  | inr not0 ↦ rw not0 tests.other_bar
])

front_goes_on : (first other : ℕ → Bool) (stop : ℕ) → AreTests first other stop → (least most : ℕ) (s : List ℕ) (c : ℕ) → IsFront first other most s
    → (nat_lt (length s) most && (if length s == 0 then first c else other c)) ≡ true → IsFront first other most (s ++ c ∷ [])
front_goes_on first other stop tests least most s c front may =
    let two = and_parts (nat_lt (length s) most) (if length s == 0 then first c else other c) may in
    let lt : length s < most = ltb-true (length s) most two.0 in
    record {
      short = omega (arith, length-snoc s c);
      begins = λ h. elim (cases_eq (length s) 0) [
        | inl none ↦
            let k : first c ≡ true = rw (eq-eqb (length s) 0 none) at two.1 in
            rw (nil_from_length s none) k
        | inr some ↦
            let before : 0 < length s = omega arith in
            rw (get_or_append_left s (c ∷ []) 0 0 before) (front.begins before)
      ];
      all = All-push (λ x. other x ≡ true) s c front.all (byte_passes first other stop tests (length s) c two.1);
    }

text_there : (first other : ℕ → Bool) (stop : ℕ) → AreTests first other stop → (least most : ℕ) (s p : List ℕ) → IsFront first other most s → Accepts (text_machine first other least most stop) s p
    → (after (text_machine first other least most stop) s p ≡ s ++ p) × IsText first other least most (s ++ p)
text_there first other stop tests least most s [] front a = (sym (append-nil s), rw (append-nil s) (record { some = leb-true least (length s) a; short = front.short; begins = front.begins; all = front.all }))
text_there first other stop tests least most s (c ∷ p) front a =
    let h = text_there first other stop tests least most (s ++ c ∷ []) p (front_goes_on first other stop tests least most s c front a.0) a.1 in
    let Q : List ℕ → Type 0 = λ l. (after (text_machine first other least most stop) (s ++ c ∷ []) p ≡ l) × IsText first other least most l in
    subst Q (snoc s c p) h

text_back : (first other : ℕ → Bool) (stop : ℕ) → AreTests first other stop → (least most : ℕ) (s p : List ℕ) → IsText first other least most (s ++ p) → Accepts (text_machine first other least most stop) s p
text_back first other stop tests least most s [] text = le-leb least (length s) (omega (arith, text.some, length-append s []))
text_back first other stop tests least most s (c ∷ p) text =
    let total : length (s ++ c ∷ p) ≡ length s + suc (length p) = length-append s (c ∷ p) in
    let lt : length s < most = omega (arith, text.short, total) in
    let within : length s < length (s ++ c ∷ p) = omega (arith, total) in
    let at : get_or (s ++ c ∷ p) (length s) 0 ≡ c = get_or_at s c p 0 (length s) refl in
    let k : other c ≡ true = rw at at (All-get_or (λ x. other x ≡ true) (s ++ c ∷ p) (length s) 0 within text.all) in (
      and_from (nat_lt (length s) most) (if length s == 0 then first c else other c) (lt-ltb (length s) most lt) (elim (cases_eq (length s) 0) [
        | inl none ↦ rw (eq-eqb (length s) 0 none) (let f : first (get_or (s ++ c ∷ p) 0 0) ≡ true = text.begins (omega (arith, total)) in rw (nil_from_length s none) at f)
        | inr some ↦ rw (ne_eqb (length s) 0 some) k
      ]),
      text_back first other stop tests least most (s ++ c ∷ []) p (rw (snoc s c p) text),
    )

-- some byte that a text may begin with
text_lives : (first other : ℕ → Bool) (stop : ℕ) → AreTests first other stop → (c : ℕ) → first c ≡ true → (least most : ℕ) → least ≤ 1 → 1 ≤ most → IsLive (text_machine first other least most stop) (λ s. length s ≤ most)
text_lives first other stop tests c is_first least most le ge = record {
  bar = bar_fails first other stop tests most;
  keeps = λ s b good may. omega (arith, length-snoc s b, ltb-true (length s) most (and_parts (nat_lt (length s) most) (if length s == 0 then first b else other b) may).0);
  ends = λ s good. elim (cases_eq (length s) 0) [
    | inl none ↦ (
      c ∷ [],
      (
        and_from (nat_lt (length s) most) (if length s == 0 then first c else other c) (lt-ltb (length s) most (omega arith)) (rw (eq-eqb (length s) 0 none) is_first),
        le-leb least (length (s ++ c ∷ [])) (omega (arith, length-snoc s c)),
      ),
    )
    | inr some ↦ ([], le-leb least (length s) (omega arith))
  ];
}

pub text_reads : (first other : ℕ → Bool) (stop : ℕ) → AreTests first other stop → (c : ℕ) → first c ≡ true → (least most : ℕ) → least ≤ 1 → 1 ≤ most
    → Reads (with_stop stop (λ s. s)) (IsText first other least most) (text_at first other least most stop)
text_reads first other stop tests c is_first least most le ge =
    machine_reads (text_machine first other least most stop) (λ s. length s ≤ most) (text_lives first other stop tests c is_first least most le ge) [] (omega arith) (λ s. s) (IsText first other least most) (record {
      there = λ p a.
          let empty : IsFront first other most [] = record { short = omega arith; begins = λ h. absurd (omega arith); all = All-nil (λ x. other x ≡ true) } in
          let h = text_there first other stop tests least most [] p empty a in
          (h.0, rw (h.0) (h.1));
      back = λ t f.
          let a = text_back first other stop tests least most [] t f in
          let empty : IsFront first other most [] = record { short = omega arith; begins = λ h. absurd (omega arith); all = All-nil (λ x. other x ≡ true) } in
          (a, (text_there first other stop tests least most [] t empty a).0);
    })
