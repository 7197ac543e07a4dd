-- Lists that are looked through and filtered, of whatever they are.
use Rattle.std.proofs.Common.{◌≡◌, ℕ, zero, suc, Bool, true, false, cond, not, ◌||◌, List, [], ◌∷◌, get_or, take, drop, filter, find, All, Option, Some, None, IfSome, is_some, inl, inr, refl, sym, ap, ◌∙◌, subst, arith}
use Rattle.std.specs.List.{list_any}
use Rattle.std.specs.List.Sorted.{IsPartitionPoint}
use Rattle.std.proofs.lemmas.Bool.{or_cases, or_left, or_right, both_ways, false_from_ne_true}
use Rattle.std.proofs.lemmas.List.Folds.{list_any_at}
use Rattle.std.proofs.lemmas.List.Elements.{All-head, All-tail}
use Rattle.std.proofs.lemmas.Option.{same_Some}

-- ---- the front and the rest at a partition point

pub front_is : {X : Type 0} (p : X → Bool) (xs : List X) (at : ℕ) → IsPartitionPoint (λ x. p x ≡ true) (λ x. p x ≡ false) xs at → take at xs ≡ filter p xs
front_is p [] zero point = refl
front_is p [] (suc at) point = refl
front_is p (x ∷ xs) zero point =
    let more = front_is p xs zero (λ k d lo hi. absurd (omega (arith, hi)), λ k d lo hi. point.1 (suc k) d (omega arith) (omega (arith, hi))) in
    rw (point.1 zero x (omega arith) (omega arith)) more
front_is {X} p (x ∷ xs) (suc at) point =
    let more = front_is p xs at (λ k d lo hi. point.0 (suc k) d (omega arith) (omega (arith, hi)), λ k d lo hi. point.1 (suc k) d (omega (arith, lo)) (omega (arith, hi))) in
    rw (point.0 zero x (omega arith) (omega arith)) (ap (λ (t : List X). x ∷ t) more)

pub rest_is : {X : Type 0} (p : X → Bool) (xs : List X) (at : ℕ) → IsPartitionPoint (λ x. p x ≡ true) (λ x. p x ≡ false) xs at → drop at xs ≡ filter (λ x. not (p x)) xs
rest_is p [] zero point = refl
rest_is p [] (suc at) point = refl
rest_is {X} p (x ∷ xs) zero point =
    let more = rest_is p xs zero (λ k d lo hi. absurd (omega (arith, hi)), λ k d lo hi. point.1 (suc k) d (omega arith) (omega (arith, hi))) in
    rw (point.1 zero x (omega arith) (omega arith)) (ap (λ (t : List X). x ∷ t) more)
rest_is p (x ∷ xs) (suc at) point =
    let more = rest_is p xs at (λ k d lo hi. point.0 (suc k) d (omega arith) (omega (arith, hi)), λ k d lo hi. point.1 (suc k) d (omega (arith, lo)) (omega (arith, hi))) in
    rw (point.0 zero x (omega arith) (omega arith)) more

-- ---- filters

-- a filter that all pass
pub filter_all : {X : Type 0} (p : X → Bool) (xs : List X) → All (λ x. p x ≡ true) xs → filter p xs ≡ xs
filter_all p [] all = refl
filter_all {X} p (x ∷ xs) all =
    rw (All-head (λ y. p y ≡ true) x xs all) (ap (λ (t : List X). x ∷ t) (filter_all p xs (All-tail (λ y. p y ≡ true) x xs all)))

-- ---- looking for one that passes

-- one is found where some pass
pub is_some-find : {X : Type 0} (p : X → Bool) (xs : List X) → is_some (find p xs) ≡ list_any p xs
is_some-find p [] = refl
is_some-find {X} p (x ∷ xs) = go (p x) (is_some-find p xs)
  where
    go : (b : Bool) → is_some (find p xs) ≡ list_any p xs → is_some (cond b (Some x) (find p xs)) ≡ (b || list_any p xs)
    go true more = refl
    go false more = more

-- what is found passes
pub find_passes : {X : Type 0} (p : X → Bool) (xs : List X) (found : X) → find p xs ≡ Some found → p found ≡ true
find_passes p [] found is = absurd cc
find_passes p (x ∷ xs) found is = go (p x) refl (find_passes p xs found) is
  where
    go : (b : Bool) → p x ≡ b → (find p xs ≡ Some found → p found ≡ true) → cond b (Some x) (find p xs) ≡ Some found → p found ≡ true
    go true here more e = rw (← same_Some x found e) here
    go false here more e = more e

pub find_passes_if : {X : Type 0} (p : X → Bool) (xs : List X) (o : Option X) → o ≡ find p xs → IfSome o (λ x. p x ≡ true)
find_passes_if p xs None is = tt
find_passes_if p xs (Some x) is = find_passes p xs x (sym is)

-- what holds of all holds of what is found
pub find_from_all : {X : Type 0} (P : X → Type 0) (p : X → Bool) (xs : List X) (found : X) → All P xs → find p xs ≡ Some found → P found
find_from_all P p [] found all is = absurd cc
find_from_all {X} P p (x ∷ xs) found all is = go (p x) (All-head P x xs all) (find_from_all P p xs found (All-tail P x xs all)) is
  where
    go : (b : Bool) → P x → (find p xs ≡ Some found → P found) → cond b (Some x) (find p xs) ≡ Some found → P found
    go true here more e = subst P (same_Some x found e) here
    go false here more e = more e

-- none is found where none passes, and nowhere else
pub find_none : {X : Type 0} (p : X → Bool) (xs : List X) → All (λ x. p x ≡ false) xs → find p xs ≡ None
find_none p [] all = refl
find_none p (x ∷ xs) all = rw (All-head (λ y. p y ≡ false) x xs all) (find_none p xs (All-tail (λ y. p y ≡ false) x xs all))

pub none_passes : {X : Type 0} (p : X → Bool) (xs : List X) → find p xs ≡ None → All (λ x. p x ≡ false) xs
none_passes p xs none k d lt =
    false_from_ne_true (p (get_or xs k d)) (λ yes. both_ways (list_any p xs) (sym (is_some-find p xs) ∙ ap is_some none) (list_any_at p xs k d lt yes))

-- where some pass, some pass a weaker test
pub any_weaker : {X : Type 0} (p q : X → Bool) → ((x : X) → p x ≡ true → q x ≡ true) → (xs : List X) → list_any p xs ≡ true → list_any q xs ≡ true
any_weaker p q weaker [] any = any
any_weaker p q weaker (x ∷ xs) any =
    elim (or_cases (p x) (list_any p xs) any) [
      | inl here ↦ or_left (q x) (list_any q xs) (weaker x here)
      | inr later ↦ or_right (q x) (list_any q xs) (any_weaker p q weaker xs later)
    ]
