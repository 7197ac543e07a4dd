-- Identities that are new, one after the other.
use Rattle.std.proofs.Common.{◌≡◌, ℕ, ◌+◌, ◌<◌, ◌≤◌, Bool, true, false, eqb, not, ◌||◌, ◌&&◌, List, [], ◌∷◌, ◌++◌, length, take, drop, Option, Some, None, option_to_list, slice_get, IfSome, refl, sym, ap, ◌∙◌}
use Rattle.std.specs.List.{list_any, cons_option}
use Rattle.std.proofs.lemmas.List.Elements.{filter_map-append}
use Rattle.std.proofs.lemmas.List.{take-append-drop, take-take}
use Rattle.std.proofs.lemmas.List.Folds.{list_any-append}
use Rattle.mc_records.specs.Entry.{Held}
use Rattle.ledger_model.specs.Stock.{ids_of, are_new}
use Rattle.slow_ledger.specs.NewStock.{held_id, is_new}
use Rattle.slow_ledger.proofs.SlowLaws.{next, of_next}

-- the known identities, after some more
abbrev pub known_after : List ℕ → List ℕ → List ℕ
known_after known [] = known
known_after known (id ∷ ids) = known_after (id ∷ known) ids

after_snoc : (known ids : List ℕ) (id : ℕ) → known_after known (ids ++ id ∷ []) ≡ id ∷ known_after known ids
after_snoc known [] id = refl
after_snoc known (x ∷ xs) id = after_snoc (x ∷ known) xs id

any_after : (test : ℕ → Bool) (known ids : List ℕ) → list_any test (known_after known ids) ≡ (list_any test ids || list_any test known)
any_after test known [] = refl
any_after test known (x ∷ xs) = any_after test (x ∷ known) xs ∙ swap (test x) (list_any test xs) (list_any test known)
  where
    swap : (a b c : Bool) → (b || (a || c)) ≡ ((a || b) || c)
    swap true true c = refl
    swap true false c = refl
    swap false true c = refl
    swap false false c = refl

ids_snoc : (helds : List Held) (x : Held) → ids_of (helds ++ x ∷ []) ≡ ids_of helds ++ option_to_list (held_id x)
ids_snoc helds x = filter_map-append held_id helds (x ∷ []) ∙ ap (λ (l : List ℕ). ids_of helds ++ l) (go (held_id x))
  where
    go : (o : Option ℕ) → cons_option o [] ≡ option_to_list o
    go None = refl
    go (Some y) = refl

one_more : (known ids rest : List ℕ) (o : Option ℕ) → (is_new ids known o && are_new (known_after known (ids ++ option_to_list o)) rest) ≡ are_new (known_after known ids) (cons_option o rest)
one_more known ids rest None = ap (λ (l : List ℕ). are_new (known_after known l) rest) (append-nil' ids)
  where
    append-nil' : (l : List ℕ) → l ++ [] ≡ l
    append-nil' [] = refl
    append-nil' (x ∷ xs) = ap (λ (t : List ℕ). x ∷ t) (append-nil' xs)
one_more known ids rest (Some id) =
    ap (λ (b : Bool). not b && are_new (known_after known (ids ++ id ∷ [])) rest) (sym (any_after (λ k. eqb k id) known ids))
    ∙ ap (λ (l : List ℕ). not (list_any (λ k. eqb k id) (known_after known ids)) && are_new l rest) (after_snoc known ids id)

pub new_more : (known : List ℕ) (helds : List Held) (k : ℕ) (r whole : Bool) → k < length helds
    → are_new (known_after known (ids_of (take k helds))) (ids_of (drop k helds)) ≡ whole
    → IfSome (slice_get helds k) (λ x. r ≡ is_new (ids_of (take k helds)) known (held_id x))
    → (r && are_new (known_after known (ids_of (take (k + 1) helds))) (ids_of (drop (k + 1) helds))) ≡ whole
new_more known helds k r whole lt so_far said =
    let x = next helds k lt in
    let is : r ≡ is_new (ids_of (take k helds)) known (held_id x.entry) = of_next (λ y. r ≡ is_new (ids_of (take k helds)) known (held_id y)) helds k x said in
    let rest : List ℕ = ids_of (drop (k + 1) helds) in
    ap (λ (b : Bool). b && are_new (known_after known (ids_of (take (k + 1) helds))) rest) is
    ∙ ap (λ (l : List ℕ). is_new (ids_of (take k helds)) known (held_id x.entry) && are_new (known_after known l) rest) (ap ids_of x.front ∙ ids_snoc (take k helds) x.entry)
    ∙ one_more known (ids_of (take k helds)) rest (held_id x.entry)
    ∙ ap (λ (l : List Held). are_new (known_after known (ids_of (take k helds))) (ids_of l)) (sym x.rest) ∙ so_far

-- ---- whether an identity stands among the first

pub first_more : (helds : List Held) (k id : ℕ) (r : Bool) → k < length helds → list_any (λ i. eqb i id) (ids_of (take k helds)) ≡ false
    → IfSome (slice_get helds k) (λ x. r ≡ list_any (λ i. eqb i id) (option_to_list (held_id x))) → list_any (λ i. eqb i id) (ids_of (take (k + 1) helds)) ≡ r
first_more helds k id r lt so_far said =
    let x = next helds k lt in
    let is : r ≡ list_any (λ i. eqb i id) (option_to_list (held_id x.entry)) = of_next (λ y. r ≡ list_any (λ i. eqb i id) (option_to_list (held_id y))) helds k x said in
    ap (list_any (λ i. eqb i id)) (ap ids_of x.front ∙ ids_snoc (take k helds) x.entry)
    ∙ list_any-append (λ i. eqb i id) (ids_of (take k helds)) (option_to_list (held_id x.entry))
    ∙ ap (λ (b : Bool). b || list_any (λ i. eqb i id) (option_to_list (held_id x.entry))) so_far ∙ sym is

-- and so among more of them
pub first_of_more : (helds : List Held) (k count : ℕ) (test : ℕ → Bool) → k ≤ count → list_any test (ids_of (take k helds)) ≡ true → list_any test (ids_of (take count helds)) ≡ true
first_of_more helds k count test le found =
    let front : List Held = take k helds in
    let rest : List Held = drop k (take count helds) in
    let is : take count helds ≡ front ++ rest = sym (take-append-drop k (take count helds)) ∙ ap (λ (l : List Held). l ++ rest) (take-take k count helds le) in
    ap (λ (l : List Held). list_any test (ids_of l)) is ∙ ap (list_any test) (filter_map-append held_id front rest)
    ∙ list_any-append test (ids_of front) (ids_of rest) ∙ ap (λ (b : Bool). b || list_any test (ids_of rest)) found
