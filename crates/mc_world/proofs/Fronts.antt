-- Fronts of lists that a loop has gone over.
use Rattle.std.proofs.Common.{◌≡◌, ℕ, zero, suc, ◌+◌, ◌<◌, ◌≤◌, List, [], ◌∷◌, ◌++◌, length, map, take, Some, None, refl, sym, ap, subst, ◌∙◌, arith, slice_get, option_map}
use Rattle.std.specs.List.{AllByRecursion}
use Rattle.std.proofs.lemmas.Option.{same_Some}
use Rattle.mc_records.specs.Sizes.{size_from}
use Rattle.ledger_model.specs.Histories.{History}

pub take_snoc : {X : Type 0} (xs : List X) (n : ℕ) (x : X) → slice_get xs n ≡ Some x → take (n + 1) xs ≡ take n xs ++ x ∷ []
take_snoc {X} xs n x is = ap (λ (k : ℕ). take k xs) (one_more n) ∙ by xs n is
  where
    one_more : (n : ℕ) → n + 1 ≡ suc n
    one_more n = omega arith

    by : (xs : List X) (n : ℕ) → slice_get xs n ≡ Some x → take (suc n) xs ≡ take n xs ++ x ∷ []
    by [] n is = absurd cc
    by (y ∷ xs) zero is = ap (λ (z : X). z ∷ []) (same_Some y x is)
    by (y ∷ xs) (suc n) is = ap (λ (l : List X). y ∷ l) (by xs n is)

pub take_whole : {X : Type 0} (xs : List X) (n : ℕ) → length xs ≤ n → take n xs ≡ xs
take_whole [] zero le = refl
take_whole [] (suc n) le = refl
take_whole (x ∷ xs) zero le = absurd (omega (arith, le))
take_whole {X} (x ∷ xs) (suc n) le = ap (λ (l : List X). x ∷ l) (take_whole xs n (omega (arith, le)))

pub map_snoc : {A B : Type 0} (f : A → B) (xs : List A) (x : A) → map f (xs ++ x ∷ []) ≡ map f xs ++ f x ∷ []
map_snoc f [] x = refl
map_snoc {A} {B} f (y ∷ xs) x = ap (λ (l : List B). f y ∷ l) (map_snoc f xs x)

pub all_snoc : {X : Type 0} (P : X → Type 0) (xs : List X) (x : X) → AllByRecursion P xs → P x → AllByRecursion P (xs ++ x ∷ [])
all_snoc P [] x all p = (p, tt)
all_snoc P (y ∷ xs) x all p = (all.0, all_snoc P xs x all.1 p)

pub all_more : {X : Type 0} (P : X → Type 0) (xs : List X) (n : ℕ) (x : X) → slice_get xs n ≡ Some x → AllByRecursion P (take n xs) → P x → AllByRecursion P (take (n + 1) xs)
all_more P xs n x is all p = subst (AllByRecursion P) (sym (take_snoc xs n x is)) (all_snoc P (take n xs) x all p)

pub stands : {X Y : Type 0} (f : X → Y) (xs : List X) (n : ℕ) → n < length xs → None ≡ option_map f (slice_get xs n) → ⊥
stands f [] n lt is = omega (arith, lt)
stands f (x ∷ xs) zero lt is = cc
stands f (x ∷ xs) (suc n) lt is = stands f xs n (omega (arith, lt)) is

-- a front of a history has no longer a journal
pub size_front : (before xs : History) (n : ℕ) → size_from before (take n xs) ≤ size_from before xs
size_front before [] zero = omega arith
size_front before [] (suc n) = omega arith
size_front before (x ∷ xs) zero = omega arith
size_front before (x ∷ xs) (suc n) = let ih = size_front (before ++ x ∷ []) xs n in omega (arith, ih)
