-- Lists, and what is said of options and results.
use Rattle.std.proofs.Common.{◌≡◌, Bool, true, false, cond, ◌&&◌, ◌||◌, List, [], ◌∷◌, ◌++◌, map, filter, Option, Some, None, Result, Ok, Err, IfSome, IfOk, option_map, option_to_list, refl, ap}
use Rattle.std.specs.List.{list_any}

-- ---- lists

pub map_append : {A B : Type 0} (f : A → B) (xs ys : List A) → map f (xs ++ ys) ≡ map f xs ++ map f ys
map_append f [] ys = refl
map_append {B = B} f (x ∷ xs) ys = ap (λ (l : List B). f x ∷ l) (map_append f xs ys)

pub mapped_option : {A B : Type 0} (f : A → B) (o : Option A) → option_to_list (option_map f o) ≡ map f (option_to_list o)
mapped_option f None = refl
mapped_option f (Some x) = refl

-- ---- what is said of what there is

pub if_some : {A : Type 0} (P Q : A → Type 0) (o : Option A) → ((x : A) → P x → Q x) → IfSome o P → IfSome o Q
if_some P Q None more said = said
if_some P Q (Some x) more said = more x said

pub if_ok : {A E : Type 0} (P Q : A → Type 0) (r : Result A E) → ((x : A) → P x → Q x) → IfOk r P → IfOk r Q
if_ok P Q (Ok x) more said = more x said
if_ok P Q (Err e) more said = said

-- ---- whether one passes

pub any_map : {A B : Type 0} (test : B → Bool) (f : A → B) (xs : List A) → list_any test (map f xs) ≡ list_any (λ x. test (f x)) xs
any_map test f [] = refl
any_map test f (x ∷ xs) = ap (λ (b : Bool). test (f x) || b) (any_map test f xs)

pub any_filter : {A : Type 0} (test keep : A → Bool) (xs : List A) → list_any test (filter keep xs) ≡ list_any (λ x. keep x && test x) xs
any_filter test keep [] = refl
any_filter {A = A} test keep (x ∷ xs) = go (keep x) (any_filter test keep xs)
  where
    go : (b : Bool) → list_any test (filter keep xs) ≡ list_any (λ y. keep y && test y) xs
        → list_any test (cond b (x ∷ filter keep xs) (filter keep xs)) ≡ ((b && test x) || list_any (λ y. keep y && test y) xs)
    go true rest = ap (λ (b : Bool). test x || b) rest
    go false rest = rest
