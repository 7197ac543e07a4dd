-- Racks by value where one is written anew, and where an empty one is added.
use Rattle.std.proofs.Common.{[], ◌≡◌, ◌<◌, ◌≤◌, ℕ, Bool, true, false, cond, eqb, List, Option, Some, None, option_map, unwrap_or, IsTrue, IsSome, MutBor, refl, sym, ap, ◌∙◌, arith}
use Rattle.std.specs.Prelude.{is_some}
use Rattle.std.specs.Option.{option_copied_mut}
use Rattle.std.proofs.lemmas.Bool.{eqb-true, eq-eqb, false≢true}
use Rattle.broker_stock.specs.Racks.{RackView, sold_first}
use Rattle.broker_stock.specs.Shelves.{rack_at, has_rack, pieces_at, room_at}

-- what the rack of a value has, or what a value without one has
abbrev pub on : {X : Type 0} → (RackView → X) → X → Option RackView → X
on f none o = unwrap_or (option_map f o) none

-- in place of the rack of a value, which was x, there is y
pub record IsWritten (old new : List (ℕ × RackView)) (value : ℕ) (x y : RackView) : Type 0 where
  pub had : Some x ≡ rack_at old value
  pub has : (v : ℕ) → rack_at new v ≡ cond (eqb value v) (Some y) (rack_at old v)

-- what the rack of the value has now, by what it had; the other values have what they had
pub written : {X : Type 0} {old new : List (ℕ × RackView)} {value : ℕ} {x y : RackView} → IsWritten old new value x y
    → (f : RackView → X) (none : X) (g : X → X) → f y ≡ g (f x) → (v : ℕ) → on f none (rack_at new v) ≡ cond (eqb value v) (g (on f none (rack_at old v))) (on f none (rack_at old v))
written {old = old} {value = value} {y = y} h f none g is v = ap (on f none) (h.has v) ∙ go (eqb value v) refl
  where
    go : (b : Bool) → eqb value v ≡ b → on f none (cond b (Some y) (rack_at old v)) ≡ cond b (g (on f none (rack_at old v))) (on f none (rack_at old v))
    go true t = is ∙ ap (λ o. g (on f none o)) (h.had ∙ ap (rack_at old) (eqb-true value v t))
    go false t = refl

-- what the rack has as it had, each value has
pub kept : {X : Type 0} {old new : List (ℕ × RackView)} {value : ℕ} {x y : RackView} → IsWritten old new value x y
    → (f : RackView → X) (none : X) → f y ≡ f x → (v : ℕ) → on f none (rack_at new v) ≡ on f none (rack_at old v)
kept {old = old} {value = value} h f none is v = written h f none (λ z. z) is v ∙ same (eqb value v)
  where
    same : (b : Bool) → cond b (on f none (rack_at old v)) (on f none (rack_at old v)) ≡ on f none (rack_at old v)
    same true = refl
    same false = refl

-- what no rack has less of, no value has less of
pub no_less : {old new : List (ℕ × RackView)} {value : ℕ} {x y : RackView} → IsWritten old new value x y → x.room ≤ y.room → (v : ℕ) → room_at old v ≤ room_at new v
unfolding room_at
no_less {old = old} {new = new} {value = value} {x = x} {y = y} h le v = go (eqb value v) refl (h.has v)
  where
    go : (b : Bool) → eqb value v ≡ b → rack_at new v ≡ cond b (Some y) (rack_at old v) → on (λ r. r.room) 0 (rack_at old v) ≤ on (λ r. r.room) 0 (rack_at new v)
    go true t is =
        let was : x.room ≡ on (λ r. r.room) 0 (rack_at old v) = ap (on (λ (r : RackView). r.room) 0) (h.had ∙ ap (rack_at old) (eqb-true value v t)) in
        let now : on (λ r. r.room) 0 (rack_at new v) ≡ y.room = ap (on (λ (r : RackView). r.room) 0) is in
        omega (arith, was, now, le)
    go false t is =
        let now : on (λ r. r.room) 0 (rack_at new v) ≡ on (λ r. r.room) 0 (rack_at old v) = ap (on (λ (r : RackView). r.room) 0) is in
        omega (arith, now)

-- ---- by what a call of the map tells

module _ {view r : List (ℕ × RackView)} (value : ℕ) (same : view ≡ r) where
  -- the rack that was found is that of the value
  pub found : {x : RackView} → Some x ≡ rack_at view value → Some x ≡ rack_at r value
  found is = is ∙ ap (λ (q : List (ℕ × RackView)). rack_at q value) same

  -- where none was found the value has none
  pub not_found : None ≡ rack_at view value → rack_at r value ≡ None
  not_found is = sym (is ∙ ap (λ (q : List (ℕ × RackView)). rack_at q value) same)

  -- one is found where there is room
  pub some_found : (o : Option (MutBor RackView)) → option_copied_mut o ≡ rack_at view value → 0 < room_at r value → IsSome o
  unfolding room_at
  some_found None is room = absurd (let none = ap (on (λ (x : RackView). x.room) 0) (is ∙ ap (λ (q : List (ℕ × RackView)). rack_at q value) same) in omega (arith, none, room))
  some_found (Some x) is room = refl

  -- and where the value has a rack
  pub one_found : (o : Option (MutBor RackView)) → option_copied_mut o ≡ rack_at view value → IsTrue (has_rack r value) → IsSome o
  unfolding has_rack
  one_found None is has = absurd (false≢true (ap is_some (is ∙ ap (λ (q : List (ℕ × RackView)). rack_at q value) same) ∙ has))
  one_found (Some x) is has = refl

  -- where the rack that was found was written, it is written in its place
  pub rewritten : {new : List (ℕ × RackView)} {x y : RackView} → Some x ≡ rack_at view value
      → ((v : ℕ) → rack_at new v ≡ cond (eqb value v) (Some y) (rack_at view v)) → IsWritten r new value x y
  rewritten {y = y} is has = record {
    had = found is;
    has = λ v. has v ∙ ap (λ (q : List (ℕ × RackView)). cond (eqb value v) (Some y) (rack_at q v)) same;
  }

-- the rack of the value that was written
pub here : {old new : List (ℕ × RackView)} {value : ℕ} {x y : RackView} → IsWritten old new value x y → Some y ≡ rack_at new value
here {old = old} {value = value} {y = y} h = sym (h.has value ∙ ap (λ (b : Bool). cond b (Some y) (rack_at old value)) (eq-eqb value value refl))

-- where a value has no rack, the others have theirs, and nothing is sold
pub none_sold : (t : ℕ) (r : List (ℕ × RackView)) (value : ℕ) → rack_at r value ≡ None → (v : ℕ) → pieces_at r v ≡ cond (eqb value v) (sold_first t (pieces_at r v)) (pieces_at r v)
unfolding pieces_at
none_sold t r value is v = go (eqb value v) refl
  where
    go : (b : Bool) → eqb value v ≡ b → on (λ x. x.pieces) [] (rack_at r v) ≡ cond b (sold_first t (on (λ x. x.pieces) [] (rack_at r v))) (on (λ x. x.pieces) [] (rack_at r v))
    go true e =
        let none : on (λ x. x.pieces) [] (rack_at r v) ≡ [] = ap (on (λ (x : RackView). x.pieces) []) (ap (rack_at r) (sym (eqb-true value v e)) ∙ is) in
        none ∙ sym (ap (sold_first t) none)
    go false e = refl

-- where a rack is added to a value that had none, and has what such a value has, nothing changes
pub added : {X : Type 0} (old new : List (ℕ × RackView)) (value : ℕ) (y : RackView) → is_some (rack_at old value) ≡ false
    → ((v : ℕ) → rack_at new v ≡ cond (eqb value v) (Some y) (rack_at old v)) → (f : RackView → X) (none : X) → f y ≡ none
    → (v : ℕ) → on f none (rack_at new v) ≡ on f none (rack_at old v)
added old new value y empty has f none is v = ap (on f none) (has v) ∙ go (eqb value v) refl
  where
    was : (o : Option RackView) → is_some o ≡ false → on f none o ≡ none
    was None e = refl
    was (Some x) e = absurd cc

    go : (b : Bool) → eqb value v ≡ b → on f none (cond b (Some y) (rack_at old v)) ≡ on f none (rack_at old v)
    go true t = is ∙ sym (ap (λ u. on f none (rack_at old u)) (sym (eqb-true value v t)) ∙ was (rack_at old value) empty)
    go false t = refl
