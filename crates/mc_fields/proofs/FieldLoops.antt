-- The steps of the loops that read fields. In each, total is what the whole reading gives, and rest
-- is what the loop still has to read.
use Rattle.std.proofs.Common.{◌≡◌, ◌≢◌, ℕ, ◌+◌, ◌-◌, ◌≤◌, ◌<◌, Bool, true, false, cond, eqb, List, ◌∷◌, length, get_or, take, drop, Option, Some, None, refl, sym, ◌∙◌, arith, inl, inr, drop-cons, add-one}
use Rattle.std.specs.Prelude.{◌&&◌, ◌⊎◌, nat_le}
use Rattle.std.proofs.lemmas.Bool.{eq-eqb, ne_eqb, and_left, and_right}
use Rattle.std.proofs.lemmas.List.{take_more, take_rest, drop_all, length-drop, length-take-le, nil_from_length}
use Rattle.mc_fields.specs.Reading.{Read, literal_at, Machine, field_at, may_follow, text_machine}
use Rattle.mc_fields.proofs.Formats.{done, failed}

abbrev none : Option ℕ
none = None

-- the rest of a list from a place within it
pub drop_at_place : (xs : List ℕ) (i : ℕ) → i < length xs → drop i xs ≡ get_or xs i 0 ∷ drop (i + 1) xs
drop_at_place xs i lt = rw (add-one, drop-cons xs i 0) refl

-- ---- literals

pub literal_ends : (text : List ℕ) (i : ℕ) (rest : List ℕ) (total : Read (Unit {0})) → i < length text → length rest ≡ 0 → literal_at (drop i text) rest ≡ total → total ≡ failed 0
unfolding literal_at
literal_ends text i rest total lt none e = sym e ∙ rw (drop_at_place text i lt, nil_from_length rest none) refl

pub literal_differs : (text : List ℕ) (i c : ℕ) (rest cs : List ℕ) (total : Read (Unit {0})) → i < length text → rest ≡ c ∷ cs → c ≢ get_or text i 0 → literal_at (drop i text) rest ≡ total → total ≡ failed (length rest)
unfolding literal_at
literal_differs text i c rest cs total lt is ne e = sym e ∙ rw (is, drop_at_place text i lt, ne_eqb c (get_or text i 0) ne) refl

pub literal_goes_on : (text : List ℕ) (i c : ℕ) (rest cs : List ℕ) (total : Read (Unit {0})) → i < length text → rest ≡ c ∷ cs → c ≡ get_or text i 0 → literal_at (drop i text) rest ≡ total → literal_at (drop (i + 1) text) cs ≡ total
unfolding literal_at
literal_goes_on text i c rest cs total lt is same e =
    let k : literal_at (drop i text) rest ≡ literal_at (drop (i + 1) text) cs = rw (is, drop_at_place text i lt, eq-eqb c (get_or text i 0) same) refl in
    sym k ∙ e

pub literal_is_read : (text : List ℕ) (i : ℕ) (rest : List ℕ) (total : Read (Unit {0})) → length text ≤ i → literal_at (drop i text) rest ≡ total → total ≡ done (tt, rest)
unfolding literal_at
literal_is_read text i rest total le e = sym e ∙ rw (drop_all i text le) refl

-- ---- machines

pub field_goes_on : {S : Type 0} (m : Machine S) (s : S) (c : ℕ) (rest cs : List ℕ) (total : Read S) → rest ≡ c ∷ cs → m.may s c ≡ true → field_at m s rest ≡ total → field_at m (m.next s c) cs ≡ total
unfolding field_at
field_goes_on m s c rest cs total is may e =
    let k : field_at m s rest ≡ field_at m (m.next s c) cs = rw (is, may) refl in
    sym k ∙ e

pub field_ends : {S : Type 0} (m : Machine S) (s : S) (c : ℕ) (rest cs : List ℕ) (total : Read S) → rest ≡ c ∷ cs → m.may s c ≡ false → c ≡ m.stop → m.done s ≡ true → field_at m s rest ≡ total → total ≡ done (s, cs)
unfolding field_at
field_ends m s c rest cs total is may bar end e = sym e ∙ rw (is, may, eq-eqb c m.stop bar, end) refl

pub field_stops : {S : Type 0} (m : Machine S) (s : S) (c : ℕ) (rest cs : List ℕ) (total : Read S) → rest ≡ c ∷ cs → m.may s c ≡ false → (c ≢ m.stop) ⊎ (m.done s ≡ false) → field_at m s rest ≡ total → total ≡ failed (length rest)
unfolding field_at
field_stops m s c rest cs total is may not e =
    let stop : (eqb c m.stop && m.done s) ≡ false = elim not [ inl ne ↦ and_left (eqb c m.stop) (m.done s) (ne_eqb c m.stop ne) | inr open' ↦ and_right (eqb c m.stop) (m.done s) open' ] in
    sym e ∙ rw (is, may, stop) refl

pub field_is_short : {S : Type 0} (m : Machine S) (s : S) (rest : List ℕ) (total : Read S) → length rest ≡ 0 → field_at m s rest ≡ total → total ≡ failed 0
unfolding field_at
field_is_short m s rest total none e = sym e ∙ rw (nil_from_length rest none) refl

-- ---- what a step answered

pub next_some : (b : Bool) (x y : ℕ) → Some y ≡ cond b (Some x) None → (b ≡ true) × (y ≡ x)
next_some true x y e = (refl, cc)
next_some false x y e = absurd cc

pub next_none : (b : Bool) (x : ℕ) → none ≡ cond b (Some x) None → b ≡ false
next_none true x e = absurd cc
next_none false x e = refl

-- ---- texts, whose state is what was read

text_may : (first other : ℕ → Bool) (least most stop : ℕ) (xs : List ℕ) (i c : ℕ) (b : Bool) → i ≤ length xs → may_follow first other most i c ≡ b → (text_machine first other least most stop).may (take i xs) c ≡ b
text_may first other least most stop xs i c b le e = rw (length-take-le i xs le) e

-- the reading of a text at a place
pub record IsAt (first other : ℕ → Bool) (least most stop : ℕ) (xs : List ℕ) (i : ℕ) (total : Read (List ℕ)) : Type 0 where
  pub reads : field_at (text_machine first other least most stop) (take i xs) (drop i xs) ≡ total

pub text_ends : (first other : ℕ → Bool) (least most stop : ℕ) (xs : List ℕ) (i : ℕ) (total : Read (List ℕ)) → i < length xs → may_follow first other most i (get_or xs i 0) ≡ false → get_or xs i 0 ≡ stop → nat_le least i ≡ true
    → IsAt first other least most stop xs i total → total ≡ done (take i xs, take (length xs - (i + 1)) (drop (i + 1) xs))
text_ends first other least most stop xs i total lt not bar le at =
    let m = text_machine first other least most stop in
    let end : m.done (take i xs) ≡ true = rw (length-take-le i xs (omega arith)) le in
    rw (take_rest xs (i + 1)) (field_ends m (take i xs) (get_or xs i 0) (drop i xs) (drop (i + 1) xs) total (drop_at_place xs i lt) (text_may first other least most stop xs i (get_or xs i 0) false (omega arith) not) bar end at.reads)

pub text_stops : (first other : ℕ → Bool) (least most stop : ℕ) (xs : List ℕ) (i : ℕ) (total : Read (List ℕ)) → i < length xs → may_follow first other most i (get_or xs i 0) ≡ false → (get_or xs i 0 ≢ stop) ⊎ (nat_le least i ≡ false)
    → IsAt first other least most stop xs i total → total ≡ failed (length xs - i)
text_stops first other least most stop xs i total lt not why at =
    let m = text_machine first other least most stop in
    let reason : (get_or xs i 0 ≢ stop) ⊎ (m.done (take i xs) ≡ false) = elim why [
      | inl ne ↦ inl ne
      | inr few ↦ inr (rw (length-take-le i xs (omega arith)) few)
    ] in
    rw (sym (length-drop i xs)) (field_stops m (take i xs) (get_or xs i 0) (drop i xs) (drop (i + 1) xs) total (drop_at_place xs i lt) (text_may first other least most stop xs i (get_or xs i 0) false (omega arith) not) reason at.reads)

pub text_goes_on : (first other : ℕ → Bool) (least most stop : ℕ) (xs : List ℕ) (i : ℕ) (total : Read (List ℕ)) → i < length xs → may_follow first other most i (get_or xs i 0) ≡ true
    → IsAt first other least most stop xs i total → IsAt first other least most stop xs (i + 1) total
text_goes_on first other least most stop xs i total lt may at = record {
  reads = rw (take_more xs i 0 lt) (field_goes_on (text_machine first other least most stop) (take i xs) (get_or xs i 0) (drop i xs) (drop (i + 1) xs) total (drop_at_place xs i lt) (text_may first other least most stop xs i (get_or xs i 0) true (omega arith) may) at.reads);
}

pub text_is_short : (first other : ℕ → Bool) (least most stop : ℕ) (xs : List ℕ) (i : ℕ) (total : Read (List ℕ)) → length xs ≤ i → IsAt first other least most stop xs i total → total ≡ failed 0
text_is_short first other least most stop xs i total le at = field_is_short (text_machine first other least most stop) (take i xs) (drop i xs) total (omega (arith, length-drop i xs)) at.reads
