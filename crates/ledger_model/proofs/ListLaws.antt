-- Lists: counts, sums, and one more element at the end.
use Rattle.std.proofs.Common.{◌≡◌, ℕ, zero, suc, ◌<◌, length, slice_get, ◌+◌, ◌≤◌, Bool, true, false, cond, ◌||◌, List, [], ◌∷◌, ◌++◌, Option, Some, None, refl, sym, ap, subst, ◌∙◌, append-nil, arith, count_by, find}
use Rattle.std.specs.Prelude.{sum_by, filter_map}
use Rattle.std.specs.List.{list_any, cons_option, AllByRecursion}
use Rattle.std.proofs.lemmas.List.Sums.{sum_by-cons, sum_by-append}
use Rattle.std.proofs.lemmas.List.Elements.{filter_map-append}
use Rattle.std.proofs.lemmas.Option.{same_Some}

-- ---- counts and sums

pub counts_cons : {X : Type 0} (test : X → Bool) (x : X) (xs : List X) → count_by test (x ∷ xs) ≡ cond (test x) 1 0 + count_by test xs
counts_cons test x xs = sum_by-cons (λ y. cond (test y) 1 0) x xs

pub counts_append : {X : Type 0} (test : X → Bool) (xs ys : List X) → count_by test (xs ++ ys) ≡ count_by test xs + count_by test ys
counts_append test xs ys = sum_by-append (λ y. cond (test y) 1 0) xs ys

pub sum_snoc : {X : Type 0} (f : X → ℕ) (xs : List X) (x : X) → sum_by f (xs ++ x ∷ []) ≡ sum_by f xs + f x
sum_snoc f xs x =
    let both = sum_by-append f xs (x ∷ []) in
    let one = sum_by-cons f x [] in
    omega (arith, both, one)

pub counts_none : {X : Type 0} (test : X → Bool) (xs : List X) → list_any test xs ≡ false → count_by test xs ≡ 0
counts_none test [] none = refl
counts_none test (x ∷ xs) none = go (test x) none (counts_cons test x xs) (counts_none test xs)
  where
    go : (b : Bool) → (b || list_any test xs) ≡ false → count_by test (x ∷ xs) ≡ cond b 1 0 + count_by test xs → (list_any test xs ≡ false → count_by test xs ≡ 0) → count_by test (x ∷ xs) ≡ 0
    go true any is ih = absurd cc
    go false any is ih = omega (arith, is, ih any)

-- one more element, where none that passes was there before
pub once_snoc : {X : Type 0} (test : X → Bool) (xs : List X) (o : Option X) → count_by test xs ≤ 1 → ((x : X) → o ≡ Some x → test x ≡ true → count_by test xs ≡ 0) → count_by test (xs ++ cons_option o []) ≤ 1
once_snoc test xs None once new = subst (λ ys. count_by test ys ≤ 1) (sym (append-nil xs)) once
once_snoc test xs (Some x) once new = go (test x) refl (counts_append test xs (x ∷ [])) (counts_cons test x [])
  where
    go : (b : Bool) → test x ≡ b → count_by test (xs ++ x ∷ []) ≡ count_by test xs + count_by test (x ∷ []) → count_by test (x ∷ []) ≡ cond b 1 0 + 0 → count_by test (xs ++ x ∷ []) ≤ 1
    go true passes both one = omega (arith, both, one, new x refl passes)
    go false fails both one = omega (arith, both, one, once)

-- ---- what holds of all

pub all_append : {X : Type 0} (P : X → Type 0) (xs ys : List X) → AllByRecursion P xs → AllByRecursion P ys → AllByRecursion P (xs ++ ys)
all_append P [] ys a b = b
all_append P (x ∷ xs) ys a b = (a.0, all_append P xs ys a.1 b)

pub all_weaker : {X : Type 0} (P Q : X → Type 0) → ((x : X) → P x → Q x) → (xs : List X) → AllByRecursion P xs → AllByRecursion Q xs
all_weaker P Q from [] all = tt
all_weaker P Q from (x ∷ xs) all = (from x all.0, all_weaker P Q from xs all.1)

pub all_option : {X : Type 0} (P : X → Type 0) (o : Option X) → ((x : X) → o ≡ Some x → P x) → AllByRecursion P (cons_option o [])
all_option P None one = tt
all_option P (Some x) one = (one x refl, tt)

-- of all that a filter gives, with one more element
pub all_snoc : {X Y : Type 0} (P : Y → Type 0) (f : X → Option Y) (xs : List X) (x : X) → AllByRecursion P (filter_map f xs) → ((y : Y) → f x ≡ Some y → P y) → AllByRecursion P (filter_map f (xs ++ x ∷ []))
all_snoc P f xs x all one =
    subst (AllByRecursion P) (sym (filter_map-append f xs (x ∷ []))) (all_append P (filter_map f xs) (cons_option (f x) []) all (all_option P (f x) one))

-- ---- what is found

pub found_passes : {X : Type 0} (test : X → Bool) (xs : List X) (x : X) → find test xs ≡ Some x → test x ≡ true
found_passes test [] x is = absurd cc
found_passes test (y ∷ ys) x is = go (test y) refl (found_passes test ys x) is
  where
    go : (b : Bool) → test y ≡ b → (find test ys ≡ Some x → test x ≡ true) → cond b (Some y) (find test ys) ≡ Some x → test x ≡ true
    go true passes ih e = ap test (sym (same_Some y x e)) ∙ passes
    go false fails ih e = ih e

pub found_holds : {X : Type 0} (P : X → Type 0) (test : X → Bool) (xs : List X) (x : X) → AllByRecursion P xs → find test xs ≡ Some x → P x
found_holds P test [] x all is = absurd cc
found_holds P test (y ∷ ys) x all is = go (test y) (found_holds P test ys x all.1) is
  where
    go : (b : Bool) → (find test ys ≡ Some x → P x) → cond b (Some y) (find test ys) ≡ Some x → P x
    go true ih e = subst P (same_Some y x e) all.0
    go false ih e = ih e

pub found_stays : {X : Type 0} (test : X → Bool) (xs ys : List X) (x : X) → find test xs ≡ Some x → find test (xs ++ ys) ≡ Some x
found_stays test [] ys x is = absurd cc
found_stays test (z ∷ zs) ys x is = go (test z) is (found_stays test zs ys x)
  where
    go : (b : Bool) → cond b (Some z) (find test zs) ≡ Some x → (find test zs ≡ Some x → find test (zs ++ ys) ≡ Some x) → cond b (Some z) (find test (zs ++ ys)) ≡ Some x
    go true e ih = e
    go false e ih = ih e

-- ---- elements by their place

-- an element stays in its place where more elements follow
pub get_stays : {X : Type 0} (xs ys : List X) (n : ℕ) → n < length xs → slice_get (xs ++ ys) n ≡ slice_get xs n
get_stays [] ys n lt = absurd (omega arith)
get_stays (x ∷ xs) ys zero lt = refl
get_stays (x ∷ xs) ys (suc n) lt = get_stays xs ys n (omega arith)

-- the element behind a list
pub get_end : {X : Type 0} (xs : List X) (y : X) → slice_get (xs ++ y ∷ []) (length xs) ≡ Some y
get_end [] y = refl
get_end (x ∷ xs) y = get_end xs y
