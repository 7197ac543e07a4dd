-- Lists searched by a test.
use Rattle.std.proofs.Common.{◌≡◌, ℕ, Bool, true, false, ◌||◌, cond, List, [], ◌∷◌, ◌++◌, length, map, filter, find, Option, Some, None, is_some, Bor, refl, sym, ap, slice_get}
use Rattle.std.specs.List.{list_any, last_or}
use Rattle.std.specs.Option.{option_copied}
use Rattle.std.specs.Slice.{IsItemAt}
use Rattle.std.proofs.lemmas.Option.{slice_get_past, slice_get_read}

-- a test finds an element exactly where one passes
pub find_any : {X : Type 0} (p : X → Bool) (xs : List X) → is_some (find p xs) ≡ list_any p xs
find_any p [] = refl
find_any p (y ∷ ys) = go (p y) (find_any p ys)
  where
    go : (b : Bool) → is_some (find p ys) ≡ list_any p ys → is_some (cond b (Some y) (find p ys)) ≡ (b || list_any p ys)
    go true ih = refl
    go false ih = ih

-- a test of what a function gives
pub any_map : {X Y : Type 0} (g : Y → X) (p : X → Bool) (ys : List Y) → list_any p (map g ys) ≡ list_any (λ y. p (g y)) ys
any_map g p [] = refl
any_map g p (y ∷ ys) = ap (λ (b : Bool). p (g y) || b) (any_map g p ys)

-- the last element that passes, with one more
pub last_snoc : {X : Type 0} (p : X → Bool) (o : Option X) (xs : List X) (x : X) → last_or o (filter p (xs ++ x ∷ [])) ≡ cond (p x) (Some x) (last_or o (filter p xs))
last_snoc {X = X} p o [] x = go (p x)
  where
    go : (b : Bool) → last_or o (cond b (x ∷ []) []) ≡ cond b (Some x) o
    go true = refl
    go false = refl
last_snoc {X = X} p o (y ∷ ys) x = go (p y) (last_snoc p (Some y) ys x) (last_snoc p o ys x)
  where
    go : (b : Bool) → last_or (Some y) (filter p (ys ++ x ∷ [])) ≡ cond (p x) (Some x) (last_or (Some y) (filter p ys))
        → last_or o (filter p (ys ++ x ∷ [])) ≡ cond (p x) (Some x) (last_or o (filter p ys))
        → last_or o (cond b (y ∷ filter p (ys ++ x ∷ [])) (filter p (ys ++ x ∷ []))) ≡ cond (p x) (Some x) (last_or o (cond b (y ∷ filter p ys) (filter p ys)))
    go true there none = there
    go false there none = none

-- the last element that passes, where there is a value to begin with
pub last_some : {X : Type 0} (p : X → Bool) (o : Option X) (xs : List X) → last_or o (filter p xs) ≡ cond (list_any p xs) (last_or None (filter p xs)) o
last_some p o [] = refl
last_some {X = X} p o (y ∷ ys) = go (p y) (last_some p (Some y) ys) (last_some p o ys)
  where
    go : (b : Bool) → last_or (Some y) (filter p ys) ≡ cond (list_any p ys) (last_or None (filter p ys)) (Some y) → last_or o (filter p ys) ≡ cond (list_any p ys) (last_or None (filter p ys)) o
        → last_or o (cond b (y ∷ filter p ys) (filter p ys)) ≡ cond (b || list_any p ys) (last_or None (cond b (y ∷ filter p ys) (filter p ys))) o
    go true there none = refl
    go false there none = none

-- ---- elements by their place

-- what is lent of the element at a place, where there is one
pub item_at : {X : Type 0} (xs : List X) (i : ℕ) (o : Option (Bor X)) → IsItemAt xs i o → option_copied o ≡ slice_get xs i
item_at xs i None item = sym (slice_get_past xs i item.3)
item_at xs i (Some r) item = sym (slice_get_read xs (length xs) i r.now refl item.3.0 item.1)
