-- Sums over a list, grouped by keys.
use Rattle.std.proofs.Common.{◌≡◌, ℕ, ◌+◌, ◌≤◌, Bool, true, false, cond, List, [], ◌∷◌, refl, ap, arith, count_by}
use Rattle.std.specs.Prelude.{sum_by, filter}
use Rattle.std.specs.List.{list_any, AllByRecursion}
use Rattle.std.proofs.lemmas.List.Sums.{sum_by-cons}
use Rattle.ledger_model.proofs.MoneyLaws.{sum_same, sum_plus, sum_nothing, one_passes}

-- a sum over what passes a test
pub kept-cons : {X : Type 0} (w : X → ℕ) (p : X → Bool) (x : X) (xs : List X) → sum_by w (filter p (x ∷ xs)) ≡ cond (p x) (w x) 0 + sum_by w (filter p xs)
kept-cons w p x xs = go (p x)
  where
    go : (b : Bool) → sum_by w (cond b (x ∷ filter p xs) (filter p xs)) ≡ cond b (w x) 0 + sum_by w (filter p xs)
    go true = sum_by-cons w x (filter p xs)
    go false = omega arith

-- ---- grouping

-- what the keys have together, where no element is of two keys, is what elements of any key have
pub grouped : {X K : Type 0} (w : X → ℕ) (at : X → K → Bool) (ks : List K) → ((x : X) → count_by (at x) ks ≤ 1) → (xs : List X)
    → sum_by (λ k. sum_by w (filter (λ x. at x k) xs)) ks ≡ sum_by w (filter (λ x. list_any (at x) ks) xs)
grouped w at ks once [] = sum_nothing ks
grouped w at ks once (x ∷ xs) =
    let each = sum_same (λ k. sum_by w (filter (λ y. at y k) (x ∷ xs))) (λ k. cond (at x k) (w x) 0 + sum_by w (filter (λ y. at y k) xs)) (λ k. kept-cons w (λ y. at y k) x xs) ks in
    let both = sum_plus (λ k. cond (at x k) (w x) 0) (λ k. sum_by w (filter (λ y. at y k) xs)) ks in
    let mine = one_passes (at x) (w x) ks (once x) in
    let rest = grouped w at ks once xs in
    let all = kept-cons w (λ y. list_any (at y) ks) x xs in
    omega (arith, each, both, mine, rest, all)

-- where each passes a filter leaves all
pub kept_all : {X : Type 0} (test : X → Bool) (xs : List X) → AllByRecursion (λ x. test x ≡ true) xs → filter test xs ≡ xs
kept_all test [] all = refl
kept_all test (x ∷ xs) all = go (test x) all.0 (kept_all test xs all.1)
  where
    go : (b : Bool) → b ≡ true → filter test xs ≡ xs → cond b (x ∷ filter test xs) (filter test xs) ≡ x ∷ xs
    go true is ih = ap (λ (ys : List _). x ∷ ys) ih
    go false is ih = absurd cc
