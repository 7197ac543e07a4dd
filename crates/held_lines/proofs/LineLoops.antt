-- The steps of making lines.
use Rattle.std.proofs.Common.{◌≡◌, ℕ, zero, suc, ◌+◌, ◌-◌, ◌<◌, ◌≤◌, Bool, true, false, cond, List, [], ◌∷◌, ◌++◌, length, take, drop, get_or, refl, sym, ap, ◌∙◌, append-nil, append_assoc, arith}
use Rattle.std.specs.Prelude.{filter}
use Rattle.std.proofs.lemmas.List.{drop_all}
use Rattle.std.proofs.Math.Seq.{drop-cons}
use Rattle.wallet_book.specs.declared.holding.Holding.{Holding}
use Rattle.held_lines.specs.declared.lines.TheConstants.{MOST}
use Rattle.held_lines.specs.Lines.{is_resold, resold, line, lines}
use Rattle.held_lines.specs.Loops.{rest, IsOnTheWay}

-- one piece at a place, and those behind it
abbrev pub IsAt : List Holding → ℕ → Holding → Type 0
IsAt xs place x = drop place xs ≡ x ∷ drop (place + 1) xs

pub at_place : (xs : List Holding) (place : ℕ) (x : Holding) → place < length xs → x ≡ get_or xs place x → IsAt xs place x
at_place xs place x lt is =
    let next : suc place ≡ place + 1 = omega arith in
    drop-cons xs place x lt ∙ ap (λ (y : Holding). y ∷ drop (suc place) xs) (sym is) ∙ ap (λ (n : ℕ). x ∷ drop n xs) next

abbrev kept : ℕ → List ℕ → List Holding → List Holding
kept t vendor xs = filter (is_resold t vendor) xs

-- a piece that gets a line
pub one_line : (t : ℕ) (vendor : List ℕ) (xs : List Holding) (old now new : List ℕ) (place count : ℕ) (x : Holding) → IsAt xs place x → count < MOST → is_resold t vendor x ≡ true → new ≡ now ++ line x
    → IsOnTheWay t vendor xs old now place count → IsOnTheWay t vendor xs old new (place + 1) (count + 1)
one_line t vendor xs old now new place count x at few is more way =
    let left : MOST - count ≡ suc (MOST - (count + 1)) = omega (arith, few) in
    let same : rest t vendor xs place count ≡ x ∷ rest t vendor xs (place + 1) (count + 1) =
    ap (λ (ys : List Holding). take (MOST - count) (kept t vendor ys)) at
    ∙ ap (λ (b : Bool). take (MOST - count) (cond b (x ∷ kept t vendor (drop (place + 1) xs)) (kept t vendor (drop (place + 1) xs)))) is
    ∙ ap (λ (n : ℕ). take n (x ∷ kept t vendor (drop (place + 1) xs))) left in
    record {
      made = ap (λ (bs : List ℕ). bs ++ lines (rest t vendor xs (place + 1) (count + 1))) more
          ∙ append_assoc now (line x) (lines (rest t vendor xs (place + 1) (count + 1)))
          ∙ ap (λ (ys : List Holding). now ++ lines ys) (sym same) ∙ way.made;
      counted = let one = ap length same in let all = way.counted in omega (arith, one, all);
      few = omega (arith, few);
    }

-- a piece that gets none
pub no_line : (t : ℕ) (vendor : List ℕ) (xs : List Holding) (old now : List ℕ) (place count : ℕ) (x : Holding) → IsAt xs place x → is_resold t vendor x ≡ false
    → IsOnTheWay t vendor xs old now place count → IsOnTheWay t vendor xs old now (place + 1) count
no_line t vendor xs old now place count x at is way =
    let same : rest t vendor xs place count ≡ rest t vendor xs (place + 1) count =
    ap (λ (ys : List Holding). take (MOST - count) (kept t vendor ys)) at
    ∙ ap (λ (b : Bool). take (MOST - count) (cond b (x ∷ kept t vendor (drop (place + 1) xs)) (kept t vendor (drop (place + 1) xs)))) is in
    record {
      made = ap (λ (ys : List Holding). now ++ lines ys) (sym same) ∙ way.made;
      counted = let one = ap length same in let all = way.counted in omega (arith, one, all);
      few = way.few;
    }

-- all lines are made
pub all_made : (t : ℕ) (vendor : List ℕ) (xs : List Holding) (old now : List ℕ) (place count : ℕ) → MOST ≤ count → IsOnTheWay t vendor xs old now place count → IsOnTheWay t vendor xs old now (place + 1) count
all_made t vendor xs old now place count most way =
    let none : MOST - count ≡ 0 = omega (arith, most) in
    let a : rest t vendor xs place count ≡ [] = ap (λ (n : ℕ). take n (kept t vendor (drop place xs))) none in
    let b : rest t vendor xs (place + 1) count ≡ [] = ap (λ (n : ℕ). take n (kept t vendor (drop (place + 1) xs))) none in
    let same = a ∙ sym b in
    record {
      made = ap (λ (ys : List Holding). now ++ lines ys) (sym same) ∙ way.made;
      counted = let one = ap length same in let all = way.counted in omega (arith, one, all);
      few = way.few;
    }

pub begun : (t : ℕ) (vendor : List ℕ) (xs : List Holding) (old : List ℕ) → IsOnTheWay t vendor xs old old 0 0
begun t vendor xs old = record { made = refl; counted = omega arith; few = omega arith }

-- at the end
pub ended : (t : ℕ) (vendor : List ℕ) (xs : List Holding) (old now : List ℕ) (place count : ℕ) → length xs ≤ place → IsOnTheWay t vendor xs old now place count
    → (now ≡ old ++ lines (resold t vendor xs)) × (count ≡ length (resold t vendor xs))
ended t vendor xs old now place count end way =
    let none : rest t vendor xs place count ≡ [] = ap (λ (ys : List Holding). take (MOST - count) (kept t vendor ys)) (drop_all place xs end) ∙ nothing (MOST - count) in
    let one = ap length none in
    let all = way.counted in
    (sym (append-nil now) ∙ ap (λ (ys : List Holding). now ++ lines ys) (sym none) ∙ way.made, omega (arith, one, all))
  where
    nothing : (n : ℕ) → take n (kept t vendor []) ≡ []
    nothing zero = refl
    nothing (suc n) = refl
