-- The kept request of a number, and of the requests in memory.
use Rattle.std.proofs.Common.{◌≡◌, ℕ, zero, suc, ◌+◌, ◌<◌, ◌≤◌, Bool, true, false, ◌&&◌, cond, not, List, [], ◌∷◌, ◌++◌, length, map, Option, Some, None, option_map, refl, sym, ap, subst, ◌∙◌, arith, filter, find, is_some, take, add-one}
use Rattle.std.proofs.lemmas.Bool.{eqb-true, eq-eqb, false_from_ne_true}
use Rattle.std.specs.Prelude.{◌==◌, filter_map, slice_get, option_and_then, IfSome}
use Rattle.std.specs.List.{list_any, enumerate_from, cons_option}
use Rattle.ledger_model.specs.Histories.{History}
use Rattle.wallet_model.specs.Requests.{Pending, pending_of, pending_in, settles, numbered, is_open, kept_requests}
use Rattle.wallet_book.specs.declared.kept.Kept.{Kept}
use Rattle.wallet_book.specs.Kept.{kept_of, ArePlaced, kept_in}

-- ---- in a history

abbrev open_from : History → ℕ → History → List (ℕ × Pending)
open_from h k es = filter (is_open h) (filter_map numbered (enumerate_from k es))

abbrev first_of : ℕ → List (ℕ × Pending) → Option (ℕ × Pending)
first_of n xs = find (λ x. n == x.0) xs

abbrev with_number : ℕ → Option Pending → Option (ℕ × Pending)
with_number n o = option_map (λ p. (n, p)) o

apart : (n k : ℕ) → (n ≡ k → ⊥) → (n == k) ≡ false
apart n k other = false_from_ne_true (n == k) (λ t. other (eqb-true n k t))

-- a request of another number is passed over
passed : (h : History) (n k : ℕ) (o : Option Pending) (xs : List (ℕ × Pending)) → (n ≡ k → ⊥) → first_of n (filter (is_open h) (cons_option (with_number k o) xs)) ≡ first_of n (filter (is_open h) xs)
passed h n k None xs other = refl
passed h n k (Some p) xs other = go (is_open h (k, p))
  where
    go : (b : Bool) → first_of n (cond b ((k, p) ∷ filter (is_open h) xs) (filter (is_open h) xs)) ≡ first_of n (filter (is_open h) xs)
    go true = rw (apart n k other) refl
    go false = refl

none_below : (h : History) (n k : ℕ) (es : History) → n < k → first_of n (open_from h k es) ≡ None
none_below h n k [] lt = refl
none_below h n k (e ∷ es) lt =
    passed h n k (pending_of e) (filter_map numbered (enumerate_from (k + 1) es)) (λ is. absurd (omega (arith, lt, is))) ∙ none_below h n (k + 1) es (omega (arith, lt))

here : (h : History) (k : ℕ) (o : Option Pending) (xs : List (ℕ × Pending)) → first_of k (filter (is_open h) xs) ≡ None
    → first_of k (filter (is_open h) (cons_option (with_number k o) xs)) ≡ cond (not (list_any (settles k) h)) (with_number k o) None
here h k None xs rest = rest ∙ go (not (list_any (settles k) h))
  where
    go : (b : Bool) → None ≡ cond b (with_number k None) None
    go true = refl
    go false = refl
here h k (Some p) xs rest = go (not (list_any (settles k) h))
  where
    go : (b : Bool) → first_of k (cond b ((k, p) ∷ filter (is_open h) xs) (filter (is_open h) xs)) ≡ cond b (Some (k, p)) None
    go true = let one : (k == k) ≡ true = eq-eqb k k refl in rw one refl
    go false = rest

found_from : (h : History) (k i : ℕ) (es : History) → first_of (k + i) (open_from h k es) ≡ cond (not (list_any (settles (k + i)) h)) (with_number (k + i) (pending_in es i)) None
found_from h k i [] = go (not (list_any (settles (k + i)) h))
  where
    go : (b : Bool) → None ≡ cond b (with_number (k + i) None) None
    go true = refl
    go false = refl
found_from h k zero (e ∷ es) =
    let z : k ≡ k + 0 = omega arith in
    subst (λ (j : ℕ). first_of j (open_from h k (e ∷ es)) ≡ cond (not (list_any (settles j) h)) (with_number j (pending_of e)) None) z
    (here h k (pending_of e) (filter_map numbered (enumerate_from (k + 1) es)) (none_below h k (k + 1) es (omega arith)))
found_from h k (suc i) (e ∷ es) =
    let z : k + 1 + i ≡ k + suc i = omega arith in
    passed h (k + suc i) k (pending_of e) (filter_map numbered (enumerate_from (k + 1) es)) (λ is. absurd (omega (arith, is)))
    ∙ subst (λ (j : ℕ). first_of j (open_from h (k + 1) es) ≡ cond (not (list_any (settles j) h)) (with_number j (pending_in es i)) None) z (found_from h (k + 1) i es)

if_some : (n : ℕ) (o : Option Pending) (b : Bool) → cond b (with_number n o) None ≡ with_number n (cond (is_some o && b) o None)
if_some n None true = refl
if_some n None false = refl
if_some n (Some p) true = refl
if_some n (Some p) false = refl

-- the request of a number among the kept ones is that of its entry, where it is kept
pub found_in : (h : History) (n : ℕ) → find (λ x. n == x.0) (kept_requests h) ≡ option_map (λ p. (n, p)) (kept_in h n)
found_in h n =
    let z : 0 + n ≡ n = omega arith in
    subst (λ (j : ℕ). first_of j (kept_requests h) ≡ cond (not (list_any (settles j) h)) (with_number j (pending_in h n)) None) z (found_from h 0 n h)
    ∙ if_some n (pending_in h n) (not (list_any (settles n) h))

-- ---- in memory

pub find_map : {X Y : Type 0} (f : X → Y) (p : Y → Bool) (xs : List X) → find p (map f xs) ≡ option_map f (find (λ x. p (f x)) xs)
find_map f p [] = refl
find_map f p (x ∷ xs) = go (p (f x)) (find_map f p xs)
  where
    go : (b : Bool) → find p (map f xs) ≡ option_map f (find (λ y. p (f y)) xs) → cond b (Some (f x)) (find p (map f xs)) ≡ option_map f (cond b (Some x) (find (λ y. p (f y)) xs))
    go true rest = refl
    go false rest = rest

pub filter_map_of : {X Y : Type 0} (f : X → Y) (p : Y → Bool) (xs : List X) → filter p (map f xs) ≡ map f (filter (λ x. p (f x)) xs)
filter_map_of f p [] = refl
filter_map_of f p (x ∷ xs) = go (p (f x)) (filter_map_of f p xs)
  where
    go : (b : Bool) → filter p (map f xs) ≡ map f (filter (λ y. p (f y)) xs) → cond b (f x ∷ filter p (map f xs)) (filter p (map f xs)) ≡ map f (cond b (x ∷ filter (λ y. p (f y)) xs) (filter (λ y. p (f y)) xs))
    go true rest = ap (λ ys. f x ∷ ys) rest
    go false rest = rest

-- the kept request of a number, of those in memory
pub found_kept : (h : History) (texts : List (List ℕ)) (ks : List Kept) (n : ℕ) → kept_requests h ≡ map (kept_of texts) ks
    → option_map (kept_of texts) (find (λ k. n == k.number) ks) ≡ option_map (λ p. (n, p)) (kept_in h n)
found_kept h texts ks n is = sym (find_map (kept_of texts) (λ x. n == x.0) ks) ∙ ap (find (λ x. n == x.0)) (sym is) ∙ found_in h n

-- ---- more texts

get_front : {X : Type 0} (xs ys : List X) (i : ℕ) → i < length xs → slice_get (xs ++ ys) i ≡ slice_get xs i
get_front [] ys i lt = absurd (omega (arith, lt))
get_front (x ∷ xs) ys zero lt = refl
get_front (x ∷ xs) ys (suc i) lt = get_front xs ys i (omega (arith, lt))

same_request : (texts more : List (List ℕ)) (k : Kept) (o : Option ℕ) → o ≡ k.place → IfSome o (λ i. i < length texts) → kept_of (texts ++ more) k ≡ kept_of texts k
same_request texts more k None is placed =
    ap (λ (o : Option ℕ). (k.number, record { ask = k.ask; peer = k.peer; target = k.target; scrip = option_and_then (slice_get (texts ++ more)) o; secret = k.secret })) (sym is)
    ∙ ap (λ (o : Option ℕ). (k.number, record { ask = k.ask; peer = k.peer; target = k.target; scrip = option_and_then (slice_get texts) o; secret = k.secret })) is
same_request texts more k (Some i) is placed =
    ap (λ (o : Option ℕ). (k.number, record { ask = k.ask; peer = k.peer; target = k.target; scrip = option_and_then (slice_get (texts ++ more)) o; secret = k.secret })) (sym is)
    ∙ ap (λ (s : Option (List ℕ)). (k.number, record { ask = k.ask; peer = k.peer; target = k.target; scrip = s; secret = k.secret })) (get_front texts more i placed)
    ∙ ap (λ (o : Option ℕ). (k.number, record { ask = k.ask; peer = k.peer; target = k.target; scrip = option_and_then (slice_get texts) o; secret = k.secret })) is

-- with more pieces behind the others the requests say the same
pub same_requests : (texts more : List (List ℕ)) (ks : List Kept) → ArePlaced (length texts) ks → map (kept_of (texts ++ more)) ks ≡ map (kept_of texts) ks
same_requests texts more [] placed = refl
same_requests texts more (k ∷ ks) placed = rw (same_request texts more k k.place refl placed.0, same_requests texts more ks placed.1) refl

placed_weaker : (n m : ℕ) (o : Option ℕ) → n ≤ m → IfSome o (λ i. i < n) → IfSome o (λ i. i < m)
placed_weaker n m None le placed = tt
placed_weaker n m (Some i) le placed = omega (arith, le, placed)

pub placed_more : (n m : ℕ) (ks : List Kept) → n ≤ m → ArePlaced n ks → ArePlaced m ks
placed_more n m [] le placed = tt
placed_more n m (k ∷ ks) le placed = (placed_weaker n m k.place le placed.0, placed_more n m ks le placed.1)

pub placed_filter : (n : ℕ) (p : Kept → Bool) (ks : List Kept) → ArePlaced n ks → ArePlaced n (filter p ks)
placed_filter n p [] placed = tt
placed_filter n p (k ∷ ks) placed = go (p k) (placed_filter n p ks placed.1)
  where
    go : (b : Bool) → ArePlaced n (filter p ks) → ArePlaced n (cond b (k ∷ filter p ks) (filter p ks))
    go true rest = (placed.0, rest)
    go false rest = rest

-- ---- looking for the first

pub find_here : {X : Type 0} (p : X → Bool) (xs : List X) (i : ℕ) (x : X) → find p (take i xs) ≡ None → slice_get xs i ≡ Some x → p x ≡ true → find p xs ≡ Some x
find_here p [] i x none here passes = absurd cc
find_here p (y ∷ ys) zero x none here passes = let same : y ≡ x = cc in ap (λ (z : _). cond (p z) (Some z) (find p ys)) same ∙ (rw passes refl)
find_here p (y ∷ ys) (suc i) x none here passes = go (p y) none (find_here p ys i x)
  where
    go : (b : Bool) → cond b (Some y) (find p (take i ys)) ≡ None → (find p (take i ys) ≡ None → slice_get ys i ≡ Some x → p x ≡ true → find p ys ≡ Some x) → cond b (Some y) (find p ys) ≡ Some x
    go true none rest = absurd cc
    go false none rest = rest none here passes

none_next : {X : Type 0} (p : X → Bool) (xs : List X) (i : ℕ) (x : X) → find p (take i xs) ≡ None → slice_get xs i ≡ Some x → p x ≡ false → find p (take (suc i) xs) ≡ None
none_next p [] i x none here fails = refl
none_next p (y ∷ ys) zero x none here fails = let same : y ≡ x = cc in ap (λ (z : _). cond (p z) (Some z) None) same ∙ (rw fails refl)
none_next p (y ∷ ys) (suc i) x none here fails = go (p y) none (none_next p ys i x)
  where
    go : (b : Bool) → cond b (Some y) (find p (take i ys)) ≡ None → (find p (take i ys) ≡ None → slice_get ys i ≡ Some x → p x ≡ false → find p (take (suc i) ys) ≡ None) → cond b (Some y) (find p (take (suc i) ys)) ≡ None
    go true none rest = absurd cc
    go false none rest = rest none here fails

pub find_next : {X : Type 0} (p : X → Bool) (xs : List X) (i : ℕ) (x : X) → find p (take i xs) ≡ None → slice_get xs i ≡ Some x → p x ≡ false → find p (take (i + 1) xs) ≡ None
find_next p xs i x none here fails = ap (λ (n : ℕ). find p (take n xs)) (add-one i) ∙ none_next p xs i x none here fails
