-- What is found at the first entry and behind it.
use Rattle.std.proofs.Common.{◌≡◌, ℕ, ◌+◌, ◌<◌, Bool, true, false, cond, ◌||◌, List, [], ◌∷◌, ◌++◌, length, take, find, filter_map, count_by, Option, Some, None, option_map, option_and_then, option_to_list, unwrap_or, bytes_eq, slice_get, IfSome, refl, sym, ap, ◌∙◌}
use Rattle.std.specs.Option.{option_or}
use Rattle.std.specs.List.{list_any, last_or, cons_option}
use Rattle.std.proofs.lemmas.List.Elements.{filter_map-append}
use Rattle.std.proofs.lemmas.List.Folds.{find-append, list_any-append}
use Rattle.mc_records.specs.Entry.{Entry, Licence}
use Rattle.ledger_model.specs.Histories.{History}
use Rattle.slow_ledger.proofs.SlowLaws.{next, of_next}
use Rattle.slow_ledger.proofs.CountLaws.{count_append}
use Rattle.ledger_model.specs.Stock.{is_licence_of, licence_terms, licence_in}

-- ---- the first that passes a test

pub found_cons : {A B : Type 0} (test : A → Bool) (f : A → B) (x : A) (xs : List A)
    → option_map f (find test (x ∷ xs)) ≡ option_or (cond (test x) (Some (f x)) None) (option_map f (find test xs))
found_cons test f x xs = go (test x)
  where
    go : (b : Bool) → option_map f (cond b (Some x) (find test xs)) ≡ option_or (cond b (Some (f x)) None) (option_map f (find test xs))
    go true = refl
    go false = refl

pub licence_cons : (vendor : List ℕ) (e : Entry) (es : History) → licence_in (e ∷ es) vendor ≡ option_or (cond (is_licence_of vendor e) (licence_terms e) None) (licence_in es vendor)
licence_cons vendor (Licence m v terms) es = go (bytes_eq v vendor)
  where
    go : (b : Bool) → option_and_then licence_terms (cond b (Some (Licence m v terms)) (find (is_licence_of vendor) es)) ≡ option_or (cond b (Some terms) None) (licence_in es vendor)
    go true = refl
    go false = refl
licence_cons vendor e es = refl

-- ---- what lists of lists have

mapped_or : {A B : Type 0} (f : A → B) (a b : Option A) → option_map f (option_or a b) ≡ option_or (option_map f a) (option_map f b)
mapped_or f None b = refl
mapped_or f (Some x) b = refl

abbrev pub found_of : {A B C : Type 0} → (C → Bool) → (C → B) → (A → Option C) → List A → Option B
found_of test f g xs = option_map f (find test (filter_map g xs))

pub found_append : {A B C : Type 0} (test : C → Bool) (f : C → B) (g : A → Option C) (xs ys : List A)
    → found_of test f g (xs ++ ys) ≡ option_or (found_of test f g xs) (found_of test f g ys)
found_append {C = C} test f g xs ys =
    ap (λ (l : List C). option_map f (find test l)) (filter_map-append g xs ys) ∙ ap (option_map f) (find-append test (filter_map g xs) (filter_map g ys))
    ∙ mapped_or f (find test (filter_map g xs)) (find test (filter_map g ys))

single : {A C : Type 0} (g : A → Option C) (x : A) → filter_map g (x ∷ []) ≡ option_to_list (g x)
single {C = C} g x = go (g x)
  where
    go : (o : Option C) → cons_option o [] ≡ option_to_list o
    go None = refl
    go (Some y) = refl

pub found_in_cons : {A B C : Type 0} (test : C → Bool) (f : C → B) (g : A → Option C) (x : A) (xs : List A)
    → found_of test f g (x ∷ xs) ≡ option_or (option_map f (find test (option_to_list (g x)))) (found_of test f g xs)
found_in_cons {C = C} test f g x xs =
    found_append test f g (x ∷ []) xs ∙ ap (λ (l : List C). option_or (option_map f (find test l)) (found_of test f g xs)) (single g x)

pub any_append : {A C : Type 0} (test : C → Bool) (g : A → Option C) (xs ys : List A)
    → list_any test (filter_map g (xs ++ ys)) ≡ (list_any test (filter_map g xs) || list_any test (filter_map g ys))
any_append test g xs ys = ap (list_any test) (filter_map-append g xs ys) ∙ list_any-append test (filter_map g xs) (filter_map g ys)

pub any_in_cons : {A C : Type 0} (test : C → Bool) (g : A → Option C) (x : A) (xs : List A)
    → list_any test (filter_map g (x ∷ xs)) ≡ (list_any test (option_to_list (g x)) || list_any test (filter_map g xs))
any_in_cons {C = C} test g x xs = any_append test g (x ∷ []) xs ∙ ap (λ (l : List C). list_any test l || list_any test (filter_map g xs)) (single g x)

pub count_in_cons : {A C : Type 0} (test : C → Bool) (g : A → Option C) (x : A) (xs : List A)
    → count_by test (filter_map g (x ∷ xs)) ≡ count_by test (option_to_list (g x)) + count_by test (filter_map g xs)
count_in_cons {C = C} test g x xs =
    ap (count_by test) (filter_map-append g (x ∷ []) xs) ∙ count_append test (filter_map g (x ∷ [])) (filter_map g xs)
    ∙ ap (λ (l : List C). count_by test l + count_by test (filter_map g xs)) (single g x)

-- ---- the last of what some entries have

last_snoc : (f : Entry → Option ℕ) (o : Option ℕ) (h : History) (e : Entry) → last_or o (filter_map f (h ++ e ∷ [])) ≡ option_or (f e) (last_or o (filter_map f h))
last_snoc f o [] e = go (f e)
  where
    go : (x : Option ℕ) → last_or o (cons_option x []) ≡ option_or x o
    go None = refl
    go (Some y) = refl
last_snoc f o (x ∷ xs) e = go (λ a. last_snoc f a xs e) (f x)
  where
    go : ((a : Option ℕ) → last_or a (filter_map f (xs ++ e ∷ [])) ≡ option_or (f e) (last_or a (filter_map f xs)))
        → (y : Option ℕ) → last_or o (cons_option y (filter_map f (xs ++ e ∷ []))) ≡ option_or (f e) (last_or o (cons_option y (filter_map f xs)))
    go rest None = rest o
    go rest (Some z) = rest (Some z)

last_of : (a b : Option ℕ) (d : ℕ) → unwrap_or (option_or a b) d ≡ unwrap_or a (unwrap_or b d)
last_of None b d = refl
last_of (Some x) b d = refl

pub last_more : (f : Entry → Option ℕ) (h : History) (n before r : ℕ) → n < length h → before ≡ unwrap_or (last_or None (filter_map f (take n h))) 0
    → IfSome (slice_get h n) (λ e. r ≡ unwrap_or (f e) before) → r ≡ unwrap_or (last_or None (filter_map f (take (n + 1) h))) 0
last_more f h n before r lt so_far said =
    let x = next h n lt in
    let is : r ≡ unwrap_or (f x.entry) before = of_next (λ e. r ≡ unwrap_or (f e) before) h n x said in
    is ∙ ap (unwrap_or (f x.entry)) so_far ∙ sym (last_of (f x.entry) (last_or None (filter_map f (take n h))) 0)
    ∙ ap (λ (o : Option ℕ). unwrap_or o 0) (sym (last_snoc f None (take n h) x.entry)) ∙ ap (λ (k : History). unwrap_or (last_or None (filter_map f k)) 0) (sym x.front)
