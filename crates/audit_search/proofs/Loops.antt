-- What loops look up, at one more element.
use Rattle.std.proofs.Common.{◌≡◌, ℕ, ◌+◌, ◌<◌, Bool, true, false, cond, eqb, ltb, leb, ◌&&◌, ◌||◌, List, [], ◌∷◌, ◌++◌, length, take, get_or, Some, None, refl, sym, ap, ap₂, ◌∙◌, arith}
use Rattle.std.specs.List.{list_any}
use Rattle.std.proofs.lemmas.Bool.Decides.{nat_tests}
use Rattle.std.proofs.lemmas.List.{take_more}
use Rattle.std.proofs.lemmas.List.Folds.{list_any-append}
use Rattle.audit_model.specs.declared.part.Part.{Part}
use Rattle.audit_sums.specs.declared.rows.Acceptance.{Acceptance}
use Rattle.audit_search.specs.Known.{is_part, has_part, is_piece, was_accepted}
use Rattle.audit_search.proofs.Ties.{turned}

-- one more element
pub one_more : {X : Type 0} (xs : List X) (i : ℕ) (x : X) → i < length xs → x ≡ get_or xs i x → take (i + 1) xs ≡ take i xs ++ x ∷ []
one_more {X = X} xs i x lt is = take_more xs i x lt ∙ ap (λ (y : X). take i xs ++ y ∷ []) (sym is)

or_false : (b : Bool) → (b || false) ≡ b
or_false true = refl
or_false false = refl

pub any_more : {X : Type 0} (test : X → Bool) (xs : List X) (i : ℕ) (x : X) → i < length xs → x ≡ get_or xs i x → list_any test (take (i + 1) xs) ≡ (list_any test (take i xs) || test x)
any_more {X = X} test xs i x lt is =
    ap (list_any test) (one_more xs i x lt is) ∙ list_any-append test (take i xs) (x ∷ []) ∙ ap (λ (b : Bool). list_any test (take i xs) || b) (or_false (test x))

-- a set into which something was put
put_in : (t old : Bool) → cond t true old ≡ (old || t)
put_in true true = refl
put_in true false = refl
put_in false true = refl
put_in false false = refl

pub known_more : (parts : List Part) (i : ℕ) (p : Part) (n id value : ℕ) (old new : Bool) → i < length parts → p ≡ get_or parts i p → n ≡ p.id
    → old ≡ has_part (take i parts) id value → new ≡ cond (eqb n id && eqb p.value value) true old → new ≡ has_part (take (i + 1) parts) id value
known_more parts i p n id value old new lt is num so_far upd =
    upd ∙ put_in (eqb n id && eqb p.value value) old
    ∙ ap₂ (λ (a b : Bool). a || b) so_far
    (ap₂ (λ (a b : Bool). a && b) (ap (λ (m : ℕ). eqb m id) num ∙ turned p.id id) (turned p.value value))
    ∙ sym (any_more (is_part id value) parts i p lt is)

-- ---- runs

run_end : (id first k : ℕ) → (leb first id && ltb id (first + (k + 1))) ≡ ((leb first id && ltb id (first + k)) || eqb (first + k) id)
run_end id first k = grind (arith, nat_tests)

pub run_more : (id value worth first k x : ℕ) (had old new : Bool) → x ≡ first + k → old ≡ (had || (eqb value worth && (leb first id && ltb id (first + k))))
    → new ≡ cond (eqb x id && eqb worth value) true old → new ≡ (had || (eqb value worth && (leb first id && ltb id (first + (k + 1)))))
run_more id value worth first k x had old new num so_far upd =
    upd ∙ ap₂ (λ (m : ℕ) (b : Bool). cond (eqb m id && b) true old) num (turned worth value)
    ∙ put_in (eqb (first + k) id && eqb value worth) old
    ∙ ap (λ (b : Bool). b || (eqb (first + k) id && eqb value worth)) so_far
    ∙ join (eqb value worth) (leb first id && ltb id (first + k)) (eqb (first + k) id)
    ∙ ap (λ (b : Bool). had || (eqb value worth && b)) (sym (run_end id first k))
  where
    join : (v r e : Bool) → ((had || (v && r)) || (e && v)) ≡ (had || (v && (r || e)))
    join true r true = go had r
      where
        go : (a b : Bool) → ((a || b) || true) ≡ (a || (b || true))
        go true b = refl
        go false b = refl
    join true r false = go had r
      where
        go : (a b : Bool) → ((a || b) || false) ≡ (a || (b || false))
        go true b = refl
        go false b = refl
    join false r true = or_false (had || false)
    join false r false = or_false (had || false)

-- ---- what was accepted

pub spent_some : (rows : List Acceptance) (i : ℕ) (a : Acceptance) (p : Part) (n id : ℕ) (old new : Bool) → i < length rows → a ≡ get_or rows i a → a.piece ≡ Some p → n ≡ p.id
    → old ≡ was_accepted (take i rows) id → new ≡ cond (eqb n id) true old → new ≡ was_accepted (take (i + 1) rows) id
spent_some rows i a p n id old new lt is has num so_far upd =
    upd ∙ put_in (eqb n id) old ∙ ap₂ (λ (x y : Bool). x || y) so_far (ap (λ (m : ℕ). eqb m id) num ∙ turned p.id id ∙ sym (ap (is_piece id) has))
    ∙ sym (any_more (λ r. is_piece id r.piece) rows i a lt is)

pub spent_none : (rows : List Acceptance) (i : ℕ) (a : Acceptance) (id : ℕ) (old : Bool) → i < length rows → a ≡ get_or rows i a → a.piece ≡ None
    → old ≡ was_accepted (take i rows) id → old ≡ was_accepted (take (i + 1) rows) id
spent_none rows i a id old lt is none so_far =
    so_far ∙ sym (or_false (was_accepted (take i rows) id)) ∙ ap (λ (b : Bool). was_accepted (take i rows) id || b) (sym (ap (is_piece id) none))
    ∙ sym (any_more (λ r. is_piece id r.piece) rows i a lt is)
