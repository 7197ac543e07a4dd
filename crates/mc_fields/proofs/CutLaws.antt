-- Where a line is cut.
use Rattle.std.proofs.Common.{◌≡◌, ℕ, zero, suc, ◌+◌, ◌-◌, ◌<◌, Bool, true, false, eqb, eq-eqb, List, [], ◌∷◌, ◌++◌, length, get_or, take, drop, Option, Some, None, option_map, refl, sym, ap, ap₂, ◌∙◌, arith}
use Rattle.std.specs.Prelude.{◌==◌, if◌then◌else◌}
use Rattle.std.specs.List.{list_any}
use Rattle.std.proofs.lemmas.Bool.{eqb-true, false_from_ne_true, or_parts}
use Rattle.std.proofs.lemmas.Option.{same_Some}
use Rattle.std.proofs.lemmas.List.{take_all, length-drop}
use Rattle.mc_fields.specs.Cuts.{cut, then_cut}

abbrev found : List ℕ → List ℕ → Option (List ℕ × List ℕ)
found word rest = Some (word, rest)

other : (a b : ℕ) → (a ≡ b → ⊥) → eqb a b ≡ false
other a b ne = false_from_ne_true (eqb a b) (λ e. ne (eqb-true a b e))

rest_whole : (bytes : List ℕ) (n : ℕ) → take (length bytes - n) (drop n bytes) ≡ drop n bytes
rest_whole bytes n = take_all (length bytes - n) (drop n bytes) (omega (arith, length-drop n bytes))

-- the first such byte is at this place
there : (stop : ℕ) (bytes : List ℕ) (i : ℕ) → i < length bytes → ((k : ℕ) → k < i → get_or bytes k 0 ≡ stop → ⊥) → get_or bytes i 0 ≡ stop → cut stop bytes ≡ found (take i bytes) (drop (suc i) bytes)
unfolding cut
there stop [] i lt before at = absurd (omega (arith, lt))
there stop (c ∷ cs) zero lt before at = rw (eq-eqb c stop at) refl
there stop (c ∷ cs) (suc i) lt before at =
    rw (other c stop (before 0 (omega arith)), there stop cs i (omega (arith, lt)) (λ k less is. before (suc k) (omega (arith, less)) is) at) refl

pub cut_there : (stop : ℕ) (bytes : List ℕ) (i : ℕ) → i < length bytes → ((k : ℕ) → k < i → get_or bytes k 0 ≡ stop → ⊥) → get_or bytes i 0 ≡ stop → found (take i bytes) (take (length bytes - (i + 1)) (drop (i + 1) bytes)) ≡ cut stop bytes
cut_there stop bytes i lt before at =
    let next : suc i ≡ i + 1 = omega arith in
    ap (found (take i bytes)) (rest_whole bytes (i + 1)) ∙ ap (λ (n : ℕ). found (take i bytes) (drop n bytes)) (sym next) ∙ sym (there stop bytes i lt before at)

pub cut_nowhere : (stop : ℕ) (bytes : List ℕ) → ((k : ℕ) → k < length bytes → get_or bytes k 0 ≡ stop → ⊥) → None ≡ cut stop bytes
unfolding cut
cut_nowhere stop [] none = refl
cut_nowhere stop (c ∷ cs) none = rw (other c stop (none 0 (omega arith)), sym (cut_nowhere stop cs (λ k less is. none (suc k) (omega (arith, less)) is))) refl

-- ---- a line and its words

-- a cut is where the byte stands
pub cut_sound : (stop : ℕ) (bytes word rest : List ℕ) → cut stop bytes ≡ found word rest → bytes ≡ word ++ stop ∷ rest
unfolding cut
cut_sound stop [] word rest is = absurd cc
cut_sound stop (c ∷ cs) word rest is = go (eqb c stop) refl (cut stop cs) refl is (λ w r. cut_sound stop cs w r)
  where
    goes_on : Bool → Option (List ℕ × List ℕ) → Option (List ℕ × List ℕ)
    goes_on b o = if b then found [] cs else option_map (λ x. (c ∷ x.0, x.1)) o

    go : (b : Bool) → eqb c stop ≡ b → (o : Option (List ℕ × List ℕ)) → cut stop cs ≡ o → goes_on b o ≡ found word rest → ((w r : List ℕ) → cut stop cs ≡ found w r → cs ≡ w ++ stop ∷ r) → c ∷ cs ≡ word ++ stop ∷ rest
    go true e o p q more =
        let x = same_Some ([], cs) (word, rest) q in
        rw (eqb-true c stop e) (ap₂ (λ (w r : List ℕ). w ++ stop ∷ r) (ap (λ (y : List ℕ × List ℕ). y.0) x) (ap (λ (y : List ℕ × List ℕ). y.1) x))
    go false e None p q more = absurd cc
    go false e (Some y) p q more =
        let x = same_Some (c ∷ y.0, y.1) (word, rest) q in
        ap (λ (l : List ℕ). c ∷ l) (more y.0 y.1 p)
        ∙ ap₂ (λ (w r : List ℕ). w ++ stop ∷ r) (ap (λ (z : List ℕ × List ℕ). z.0) x) (ap (λ (z : List ℕ × List ℕ). z.1) x)

-- no such byte stands in a word
abbrev pub IsFree : ℕ → List ℕ → Type 0
IsFree stop word = list_any (λ c. c == stop) word ≡ false

pub cut_again : (stop : ℕ) (word rest : List ℕ) → IsFree stop word → cut stop (word ++ stop ∷ rest) ≡ found word rest
unfolding cut
cut_again stop [] rest free = rw (eq-eqb stop stop refl) refl
cut_again stop (c ∷ cs) rest free =
    let parts = or_parts (eqb c stop) (list_any (λ b. b == stop) cs) free in
    rw (parts.0, cut_again stop cs rest parts.1) refl

-- what is read of both parts was read of them
pub cut_then : {A : Type 0} (line : List ℕ) (next : List ℕ → List ℕ → Option A) (r : A) → then_cut (cut 32 line) next ≡ Some r
    → (word : List ℕ) × (rest : List ℕ) × (line ≡ word ++ 32 ∷ rest) × (next word rest ≡ Some r)
cut_then {A = A} line next r is = go (cut 32 line) refl is
  where
    go : (o : Option (List ℕ × List ℕ)) → cut 32 line ≡ o → then_cut o next ≡ Some r → (word : List ℕ) × (rest : List ℕ) × (line ≡ word ++ 32 ∷ rest) × (next word rest ≡ Some r)
    go None e n = absurd cc
    go (Some x) e n = (x.0, x.1, cut_sound 32 line x.0 x.1 e, n)

-- and is read of them again
pub cut_on : {A : Type 0} (word rest : List ℕ) (next : List ℕ → List ℕ → Option A) → IsFree 32 word → then_cut (cut 32 (word ++ 32 ∷ rest)) next ≡ next word rest
cut_on word rest next free = ap (λ (o : Option (List ℕ × List ℕ)). then_cut o next) (cut_again 32 word rest free)
