-- The readers of single fields.
use Rattle.std.proofs.Common.{◌≡◌, ℕ, suc, ◌+◌, ◌≤◌, true, false, eqb, List, [], ◌∷◌, ◌++◌, length, refl, sym, ap, ◌∙◌, subst, append_assoc, arith, inl, inr}
use Rattle.std.specs.Prelude.{◌&&◌}
use Rattle.std.proofs.lemmas.Bool.{eqb-true, eq-eqb, ne_eqb, cases_eq, cases_Bool, and_parts, and_from, true≢false}
use Rattle.mc_fields.specs.Reading.{literal_at, Machine, field_at}
use Rattle.mc_fields.proofs.Fronts.{common, common-cons_same, common-cons_other}
use Rattle.mc_fields.proofs.Formats.{Reads, done, failed, done_is}

pub err_is : {A : Type 0} (x y : ℕ) → failed {A = A} x ≡ failed y → x ≡ y
err_is x y e = cc

-- ---- these very bytes

literal_sound : (text bytes : List ℕ) (a : Unit {0}) (rest : List ℕ) → literal_at text bytes ≡ done (a, rest) → bytes ≡ text ++ rest
unfolding literal_at
literal_sound [] bytes a rest e = ap (λ (p : Unit {0} × List ℕ). p.1) (done_is (tt, bytes) (a, rest) e)
literal_sound (l ∷ ls) [] a rest e = absurd cc
literal_sound (l ∷ ls) (c ∷ cs) a rest e = elim (cases_eq c l) [
  | inl same ↦
      let k : literal_at ls cs ≡ done (a, rest) = rw (eq-eqb c l same) at e in
      rw (same, literal_sound ls cs a rest k) refl
  | inr other ↦ absurd (let k : failed {A = Unit {0} × List ℕ} (suc (length cs)) ≡ done (a, rest) = rw (ne_eqb c l other) at e in cc)
]

literal_again : (text rest : List ℕ) → literal_at text (text ++ rest) ≡ done (tt, rest)
unfolding literal_at
literal_again [] rest = refl
literal_again (l ∷ ls) rest = rw (eq-eqb l l refl) (literal_again ls rest)

literal_fault : (text bytes : List ℕ) (left : ℕ) → literal_at text bytes ≡ failed left → (r : List ℕ) → common bytes (text ++ r) + left ≡ length bytes
unfolding literal_at
literal_fault [] bytes left e r = absurd cc
literal_fault (l ∷ ls) [] left e r = let k : 0 ≡ left = err_is {A = Unit {0} × List ℕ} 0 left e in omega arith
literal_fault (l ∷ ls) (c ∷ cs) left e r = elim (cases_eq c l) [
  | inl same ↦
      let k : literal_at ls cs ≡ failed left = rw (eq-eqb c l same) at e in
      rw (eq-eqb c l same) (omega (arith, literal_fault ls cs left k r))
  | inr other ↦
      let k : failed {A = Unit {0} × List ℕ} (suc (length cs)) ≡ failed left = rw (ne_eqb c l other) at e in
      rw (ne_eqb c l other) (omega (arith, err_is {A = Unit {0} × List ℕ} (suc (length cs)) left k))
]

abbrev pub literal_spelling : List ℕ → Unit {0} → List ℕ
literal_spelling text a = text

abbrev pub Always : Unit {0} → Type 0
Always a = Unit {0}

pub literal_reads : (text : List ℕ) → Reads (literal_spelling text) Always (literal_at text)
literal_reads text = record {
  sound = λ bytes a rest e. (literal_sound text bytes a rest e, tt);
  again = λ a rest f. literal_again text rest;
  some = λ bytes left e. (tt, tt, literal_fault text bytes left e);
  none = λ bytes left e a r f. omega (arith, literal_fault text bytes left e r);
}

-- ---- a machine, up to its stop

-- the bytes take the machine from the state to an end
abbrev pub Accepts : {S : Type 0} → Machine S → S → List ℕ → Type 0
Accepts m s [] = m.done s ≡ true
Accepts m s (c ∷ cs) = (m.may s c ≡ true) × Accepts m (m.next s c) cs

abbrev pub after : {S : Type 0} → Machine S → S → List ℕ → S
after m s [] = s
after m s (c ∷ cs) = after m (m.next s c) cs

-- no state takes the stop, and from each good state some bytes lead to an end
pub record IsLive {S : Type 0} (m : Machine S) (Good : S → Type 0) : Type 0 where
  pub bar : (s : S) → m.may s m.stop ≡ false
  pub keeps : (s : S) (c : ℕ) → Good s → m.may s c ≡ true → Good (m.next s c)
  pub ends : (s : S) → Good s → (p : List ℕ) × Accepts m s p

pub machine_sound : {S : Type 0} (m : Machine S) (s : S) (bytes : List ℕ) (t : S) (rest : List ℕ) → field_at m s bytes ≡ done (t, rest)
    → (p : List ℕ) × (bytes ≡ p ++ m.stop ∷ rest) × Accepts m s p × (after m s p ≡ t)
unfolding field_at
machine_sound {S = S} m s [] t rest e = absurd cc
machine_sound {S = S} m s (c ∷ cs) t rest e = elim (cases_Bool (m.may s c)) [
  | inl may ↦
      let k : field_at m (m.next s c) cs ≡ done (t, rest) = rw may at e in
      let w = machine_sound m (m.next s c) cs t rest k in
      (c ∷ w.0, ap (λ (l : List ℕ). c ∷ l) w.1, (may, w.2), w.3)
  | inr not ↦ elim (cases_Bool (eqb c m.stop && m.done s)) [
    | inl end ↦
        let k : done (s, cs) ≡ done (t, rest) = rw (not, end) at e in
        let q = done_is (s, cs) (t, rest) k in
        let two = and_parts (eqb c m.stop) (m.done s) end in
        ([], rw (eqb-true c m.stop two.0) (ap (λ (p : S × List ℕ). m.stop ∷ p.1) q), two.1, ap (λ (p : S × List ℕ). p.0) q)
    | inr go ↦ absurd (let k : failed {A = S × List ℕ} (suc (length cs)) ≡ done (t, rest) = rw (not, go) at e in cc)
  ]
]

pub machine_again : {S : Type 0} (m : Machine S) (Good : S → Type 0) → IsLive m Good → (s : S) (p rest : List ℕ) → Accepts m s p → field_at m s (p ++ m.stop ∷ rest) ≡ done (after m s p, rest)
unfolding field_at
machine_again m Good live s [] rest a = rw (live.bar s, a, eq-eqb m.stop m.stop refl) refl
machine_again m Good live s (c ∷ cs) rest a = rw (a.0) (machine_again m Good live (m.next s c) cs rest a.1)

pub machine_left : {S : Type 0} (m : Machine S) (s : S) (bytes : List ℕ) (left : ℕ) → field_at m s bytes ≡ failed left → left ≤ length bytes
unfolding field_at
machine_left {S = S} m s [] left e = omega (arith, err_is {A = S × List ℕ} 0 left e)
machine_left {S = S} m s (c ∷ cs) left e = elim (cases_Bool (m.may s c)) [
  | inl may ↦
      let k : field_at m (m.next s c) cs ≡ failed left = rw may at e in
      omega (arith, machine_left m (m.next s c) cs left k)
  | inr not ↦ elim (cases_Bool (eqb c m.stop && m.done s)) [
    | inl end ↦ absurd (let k : done (s, cs) ≡ failed left = rw (not, end) at e in cc)
    | inr go ↦ let k : failed {A = S × List ℕ} (suc (length cs)) ≡ failed left = rw (not, go) at e in omega (arith, err_is {A = S × List ℕ} (suc (length cs)) left k)
  ]
]

-- at a byte that the machine does not take, and that does not end it, no text goes on
machine_stops : {S : Type 0} (m : Machine S) (s : S) (c : ℕ) (cs p r : List ℕ) → m.may s c ≡ false → (eqb c m.stop && m.done s) ≡ false → Accepts m s p → common (c ∷ cs) (p ++ m.stop ∷ r) ≡ 0
machine_stops m s c cs [] r not go a = elim (cases_eq c m.stop) [
  | inl same ↦ absurd (true≢false (sym (and_from (eqb c m.stop) (m.done s) (eq-eqb c m.stop same) a) ∙ go))
  | inr other ↦ common-cons_other c m.stop cs r other
]
machine_stops m s c cs (d ∷ p) r not go a = elim (cases_eq c d) [
  | inl same ↦ absurd (true≢false (sym a.0 ∙ ap (λ (k : ℕ). m.may s k) (sym same) ∙ not))
  | inr other ↦ common-cons_other c d cs (p ++ m.stop ∷ r) other
]

pub machine_some : {S : Type 0} (m : Machine S) (Good : S → Type 0) → IsLive m Good → (s : S) (bytes : List ℕ) (left : ℕ) → Good s → field_at m s bytes ≡ failed left
    → (p : List ℕ) × Accepts m s p × ((r : List ℕ) → common bytes (p ++ m.stop ∷ r) + left ≡ length bytes)
unfolding field_at
machine_some {S = S} m Good live s [] left good e =
    let w = live.ends s good in
    (w.0, w.1, λ r. omega (arith, err_is {A = S × List ℕ} 0 left e))
machine_some {S = S} m Good live s (c ∷ cs) left good e = elim (cases_Bool (m.may s c)) [
  | inl may ↦
      let k : field_at m (m.next s c) cs ≡ failed left = rw may at e in
      let w = machine_some m Good live (m.next s c) cs left (live.keeps s c good may) k in
      (c ∷ w.0, (may, w.1), λ r. omega (arith, common-cons_same c cs (w.0 ++ m.stop ∷ r), w.2 r))
  | inr not ↦ elim (cases_Bool (eqb c m.stop && m.done s)) [
    | inl end ↦ absurd (let k : done (s, cs) ≡ failed left = rw (not, end) at e in cc)
    | inr go ↦
        let k : failed {A = S × List ℕ} (suc (length cs)) ≡ failed left = rw (not, go) at e in
        let w = live.ends s good in
        (w.0, w.1, λ r. omega (arith, machine_stops m s c cs w.0 r not go w.1, err_is {A = S × List ℕ} (suc (length cs)) left k))
  ]
]

pub machine_none : {S : Type 0} (m : Machine S) (Good : S → Type 0) → IsLive m Good → (s : S) (bytes : List ℕ) (left : ℕ) → field_at m s bytes ≡ failed left
    → (p r : List ℕ) → Accepts m s p → common bytes (p ++ m.stop ∷ r) + left ≤ length bytes
unfolding field_at
machine_none {S = S} m Good live s [] left e p r a = omega (arith, err_is {A = S × List ℕ} 0 left e)
machine_none {S = S} m Good live s (c ∷ cs) left e [] r a = elim (cases_eq c m.stop) [
  | inl same ↦ absurd (let k : done (s, cs) ≡ failed left = rw (same, live.bar s, a, eq-eqb m.stop m.stop refl) at e in cc)
  | inr other ↦ omega (arith, common-cons_other c m.stop cs r other, machine_left m s (c ∷ cs) left e)
]
machine_none {S = S} m Good live s (c ∷ cs) left e (d ∷ p) r a = elim (cases_eq c d) [
  | inl same ↦
      let may : m.may s c ≡ true = ap (λ (x : ℕ). m.may s x) same ∙ a.0 in
      let k : field_at m (m.next s c) cs ≡ failed left = rw may at e in
      let b : Accepts m (m.next s c) p = rw same a.1 in
      let h = machine_none m Good live (m.next s c) cs left k p r b in
      rw (sym same) (omega (arith, common-cons_same c cs (p ++ m.stop ∷ r), h))
  | inr other ↦ omega (arith, common-cons_other c d cs (p ++ m.stop ∷ r) other, machine_left m s (c ∷ cs) left e)
]

-- a field whose values are the machine's states at an end
pub record IsSpelled {S : Type 0} (m : Machine S) (s : S) (spell : S → List ℕ) (Fits : S → Type 0) : Type 0 where
  pub there : (p : List ℕ) → Accepts m s p → (spell (after m s p) ≡ p) × Fits (after m s p)
  pub back : (t : S) → Fits t → Accepts m s (spell t) × (after m s (spell t) ≡ t)

-- a spelling, and the byte that stops it
abbrev pub with_stop : {S : Type 0} → ℕ → (S → List ℕ) → S → List ℕ
with_stop stop spell t = spell t ++ stop ∷ []

pub machine_reads : {S : Type 0} (m : Machine S) (Good : S → Type 0) → IsLive m Good → (s : S) → Good s → (spell : S → List ℕ) (Fits : S → Type 0) → IsSpelled m s spell Fits
    → Reads (with_stop m.stop spell) Fits (field_at m s)
machine_reads {S = S} m Good live s good spell Fits is = record {
  sound = λ bytes a rest e.
      let w = machine_sound m s bytes a rest e in
      let h = is.there w.0 w.2 in
      let P : S → Type 0 = λ t. (bytes ≡ (spell t ++ (m.stop ∷ [])) ++ rest) × Fits t in
      subst P w.3 (w.1 ∙ ap (λ (l : List ℕ). l ++ m.stop ∷ rest) (sym h.0) ∙ sym (append_assoc (spell (after m s w.0)) ((m.stop ∷ [])) rest), h.1);
  again = λ a rest f.
      let h = is.back a f in
      ap (field_at m s) (append_assoc (spell a) ((m.stop ∷ [])) rest) ∙ machine_again m Good live s (spell a) rest h.0 ∙ ap (λ (t : S). done (t, rest)) h.1;
  some = λ bytes left e.
      let w = machine_some m Good live s bytes left good e in
      let h = is.there w.0 w.1 in
      (after m s w.0, h.1, λ r. rw (append_assoc (spell (after m s w.0)) ((m.stop ∷ [])) r, h.0) (w.2 r));
  none = λ bytes left e a r f.
      let h = is.back a f in
      rw (append_assoc (spell a) ((m.stop ∷ [])) r) (machine_none m Good live s bytes left e (spell a) r h.0);
}
