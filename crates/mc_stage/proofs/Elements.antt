-- One element of a list that is seen through a function, and the pieces of a link.
use Rattle.std.proofs.Common.{◌≡◌, ℕ, ◌+◌, ◌-◌, ◌<◌, ◌≤◌, List, [], ◌∷◌, ◌++◌, length, map, take, drop, refl, sym, ◌∙◌, ap, arith, slice_index_or, slice_set, Some, None, Result, Ok, Err, OnErr, inl, inr, suc, zero, length-drop, length-append, drop-drop}
use Rattle.std.specs.Prelude.{slice_get}
use Rattle.std.proofs.lemmas.List.{take-append-le, take_all}
use Rattle.std.proofs.lemmas.Bool.{cases_lt}
use Rattle.mc_stage.specs.Lists.{at_last}
use Rattle.mc_stage.specs.Scenario.{cut_first, pieces_from, without_empty, pieces_after, IsAtPiece}

-- the last element was changed
pub last_changed : {V W : Type 0} (f : V → W) (h : W → W) (xs : List V) (i : ℕ) (v w : V) → length xs ≡ i + 1 → v ≡ slice_index_or xs i v → f w ≡ h (f v) → map f (slice_set xs i w) ≡ at_last h (map f xs)
last_changed f h [] i v w len is e = absurd (omega (arith, len))
last_changed f h (x ∷ []) zero v w len is e = ap (λ z. z ∷ []) (e ∙ ap (λ z. h (f z)) is)
last_changed f h (x ∷ []) (suc j) v w len is e = absurd (omega (arith, len))
last_changed f h (x ∷ y ∷ ys) zero v w len is e = absurd (omega (arith, len))
last_changed f h (x ∷ y ∷ ys) (suc j) v w len is e = ap (λ l. f x ∷ l) (last_changed f h (y ∷ ys) j v w (omega (arith, len)) is e)

-- an element was set to one that looks the same
pub set_same : {V W : Type 0} (f : V → W) (xs : List V) (i : ℕ) (v w : V) → v ≡ slice_index_or xs i v → f w ≡ f v → map f (slice_set xs i w) ≡ map f xs
set_same f [] i v w is e = refl
set_same f (x ∷ xs) zero v w is e = ap (λ z. z ∷ map f xs) (e ∙ ap f is)
set_same f (x ∷ xs) (suc j) v w is e = ap (λ l. f x ∷ l) (set_same f xs j v w is e)

pub at_err : {T E : Type 0} (r : Result T E) (P : Type 0) → P → OnErr r P
at_err (Ok x) P p = tt
at_err (Err e) P p = p

-- the elements from one on
pub drop_there : {V W : Type 0} (f : V → W) (xs : List V) (i : ℕ) (v : V) → i < length xs → v ≡ slice_index_or xs i v → drop i (map f xs) ≡ f v ∷ drop (suc i) (map f xs)
drop_there f [] i v lt is = absurd (omega (arith, lt))
drop_there f (x ∷ xs) zero v lt is = ap (λ z. f z ∷ map f xs) (sym is)
drop_there f (x ∷ xs) (suc i) v lt is = drop_there f xs i v (omega (arith, lt)) is

-- what a look-up gives
pub get_there : {V : Type 0} (xs : List V) (i : ℕ) (v : V) → i < length xs → v ≡ slice_index_or xs i v → slice_get xs i ≡ Some v
get_there [] i v lt is = absurd (omega (arith, lt))
get_there (x ∷ xs) zero v lt is = ap (λ z. Some z) (sym is)
get_there (x ∷ xs) (suc i) v lt is = get_there xs i v (omega (arith, lt)) is

pub get_past : {V : Type 0} (xs : List V) (i : ℕ) → length xs ≤ i → slice_get xs i ≡ None
get_past [] zero le = refl
get_past [] (suc i) le = refl
get_past (x ∷ xs) zero le = absurd (omega (arith, le))
get_past (x ∷ xs) (suc i) le = get_past xs i (omega (arith, le))

pub piece_there : {V : Type 0} (f : V → List ℕ) (ps : List V) (i place : ℕ) (v : V) → i < length ps → v ≡ slice_index_or ps i v → pieces_from i place (map f ps) ≡ drop place (f v) ∷ drop (suc i) (map f ps)
piece_there f ps i place v lt is = ap (cut_first place) (drop_there f ps i v lt is)

drop_gone : (n : ℕ) (xs : List ℕ) → length xs ≤ n → drop n xs ≡ []
drop_gone zero [] le = refl
drop_gone (suc n) [] le = refl
drop_gone zero (x ∷ xs) le = absurd (omega (arith, le))
drop_gone (suc n) (x ∷ xs) le = drop_gone n xs (omega (arith, le))

cut_none : (ps : List (List ℕ)) → cut_first 0 ps ≡ ps
cut_none [] = refl
cut_none (p ∷ ps) = refl

-- a piece that was given whole is passed over
pub piece_over : {V : Type 0} (f : V → List ℕ) (ps : List V) (i j place : ℕ) (v : V) → i < length ps → v ≡ slice_index_or ps i v → length (f v) ≤ place → j ≡ suc i
    → without_empty (pieces_from i place (map f ps)) ≡ without_empty (pieces_from j 0 (map f ps))
piece_over f ps i j place v lt is over next =
    ap without_empty (piece_there f ps i place v lt is)
    ∙ ap (λ (l : List ℕ). without_empty (l ∷ drop (suc i) (map f ps))) (drop_gone place (f v) over)
    ∙ ap (λ (l : List (List ℕ)). without_empty l) (sym (cut_none (drop (suc i) (map f ps))))
    ∙ ap (λ (k : ℕ). without_empty (pieces_from k 0 (map f ps))) (sym next)

full : (p : List ℕ) (ps : List (List ℕ)) → 0 < length p → p ∷ ps ≡ without_empty (p ∷ ps)
full [] ps lt = absurd (omega (arith, lt))
full (x ∷ xs) ps lt = refl

-- a piece that has bytes left is not
pub piece_left : {V : Type 0} (f : V → List ℕ) (ps : List V) (i place : ℕ) (v : V) → i < length ps → v ≡ slice_index_or ps i v → place < length (f v)
    → pieces_from i place (map f ps) ≡ without_empty (pieces_from i place (map f ps))
piece_left f ps i place v lt is left =
    let there = piece_there f ps i place v lt is in
    there ∙ full (drop place (f v)) (drop (suc i) (map f ps)) (omega (arith, left, length-drop place (f v))) ∙ ap without_empty (sym there)

no_empty : (ps qs : List (List ℕ)) → [] ∷ qs ≡ without_empty ps → ⊥
no_empty [] qs e = cc e
no_empty ([] ∷ ps) qs e = no_empty ps qs e
no_empty ((x ∷ xs) ∷ ps) qs e = let f : [] ≡ x ∷ xs = cc e in cc f

-- where no empty piece is in front, the first has bytes left
pub piece_open : {V : Type 0} (f : V → List ℕ) (ps : List V) (i place : ℕ) (v : V) → i < length ps → v ≡ slice_index_or ps i v
    → pieces_from i place (map f ps) ≡ without_empty (pieces_from i place (map f ps)) → place < length (f v)
piece_open f ps i place v lt is at = elim (cases_lt place (length (f v))) [
  | inl more ↦ more
  | inr less ↦
      let rest = drop (suc i) (map f ps) in
      let empty : pieces_from i place (map f ps) ≡ [] ∷ rest = piece_there f ps i place v lt is ∙ ap (λ (l : List ℕ). l ∷ rest) (drop_gone place (f v) less) in
      absurd (no_empty rest rest (sym empty ∙ at ∙ ap without_empty empty))
]

-- n bytes of the first piece were given, and some are left
pub some_given : {V : Type 0} (f : V → List ℕ) (ps : List V) (i place n : ℕ) (v : V) → i < length ps → v ≡ slice_index_or ps i v → place + n < length (f v)
    → pieces_from i (place + n) (map f ps) ≡ pieces_after n (pieces_from i place (map f ps))
some_given f ps i place n v lt is left =
    piece_left f ps i (place + n) v lt is left
    ∙ ap without_empty (piece_there f ps i (place + n) v lt is)
    ∙ ap (λ (l : List ℕ). without_empty (l ∷ drop (suc i) (map f ps))) (sym (drop-drop n place (f v)))
    ∙ ap (pieces_after n) (sym (piece_there f ps i place v lt is))

-- all bytes of the first piece were given
pub all_given : {V : Type 0} (f : V → List ℕ) (ps : List V) (i j place n : ℕ) (v : V) → i < length ps → v ≡ slice_index_or ps i v → length (f v) ≤ place + n → j ≡ suc i
    → without_empty (pieces_from j 0 (map f ps)) ≡ pieces_after n (pieces_from i place (map f ps))
all_given f ps i j place n v lt is over next =
    ap (λ (k : ℕ). without_empty (pieces_from k 0 (map f ps))) next
    ∙ ap without_empty (cut_none (drop (suc i) (map f ps)))
    ∙ ap (λ (l : List ℕ). without_empty (l ∷ drop (suc i) (map f ps))) (sym (drop_gone n (drop place (f v)) (omega (arith, over, length-drop place (f v)))))
    ∙ ap (pieces_after n) (sym (piece_there f ps i place v lt is))

-- empty pieces are passed over once
pub twice : (ps : List (List ℕ)) → without_empty ps ≡ without_empty (without_empty ps)
twice [] = refl
twice ([] ∷ ps) = twice ps
twice ((x ∷ xs) ∷ ps) = refl

-- the last bytes were added and dropped again
pub dropped_again : (xs ys : List ℕ) (n : ℕ) → length ys ≡ n → take (length (xs ++ ys) - n) (xs ++ ys) ≡ xs
dropped_again xs ys n len =
    let k : length (xs ++ ys) - n ≡ length xs = omega (arith, length-append xs ys, len) in
    ap (λ (m : ℕ). take m (xs ++ ys)) k ∙ take-append-le (length xs) xs ys (omega arith) ∙ take_all (length xs) xs (omega arith)

pub at_last-twice : (f g : List ℕ → List ℕ) (ls : List (List ℕ)) → ((x : List ℕ) → g (f x) ≡ x) → at_last g (at_last f ls) ≡ ls
at_last-twice f g [] e = refl
at_last-twice f g (x ∷ []) e = ap (λ z. z ∷ []) (e x)
at_last-twice f g (x ∷ y ∷ []) e = ap (λ z. x ∷ z ∷ []) (e y)
at_last-twice f g (x ∷ y ∷ z ∷ ls) e = ap (λ l. x ∷ l) (at_last-twice f g (y ∷ z ∷ ls) e)

pub is_at : (qs ps : List (List ℕ)) → qs ≡ without_empty ps → IsAtPiece qs
is_at qs ps e = e ∙ twice ps ∙ ap without_empty (sym e)
