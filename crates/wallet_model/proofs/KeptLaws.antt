-- The kept requests of a wallet's book with one entry more, and the request of a number among them.
use Rattle.std.proofs.Common.{◌≡◌, ℕ, zero, suc, ◌+◌, ◌≤◌, ◌<◌, Bool, true, false, ◌||◌, ◌&&◌, cond, List, [], ◌∷◌, ◌++◌, length, Option, Some, None, refl, ap, sym, subst, ◌∙◌, append-nil, arith, filter, count_by, inl, inr, ◌⊎◌}
use Rattle.std.proofs.lemmas.Bool.{eqb-true, eq-eqb}
use Rattle.std.specs.Prelude.{◌==◌, not, option_map, option_to_list, filter_map, slice_get, is_some}
use Rattle.std.specs.List.{list_any, enumerate_from, cons_option}
use Rattle.std.proofs.lemmas.List.Elements.{filter-append}
use Rattle.std.proofs.lemmas.List.Folds.{list_any-append}
use Rattle.mc_records.specs.Entry.{Held, Entry, Pend, Done, Refused}
use Rattle.ledger_model.specs.Histories.{History}
use Rattle.ledger_model.proofs.ListLaws.{counts_cons}
use Rattle.wallet_model.specs.Requests.{Pending, pending_of, pending_in, settles, is_kept, numbered, requests, is_open, kept_requests}

-- ---- tests

pub by_cases : (b : Bool) → (b ≡ true) ⊎ (b ≡ false)
by_cases true = inl refl
by_cases false = inr refl

pub both_left : (a b : Bool) → (a && b) ≡ true → a ≡ true
both_left true b h = refl
both_left false b h = absurd (cc h)

pub both_right : (a b : Bool) → (a && b) ≡ true → b ≡ true
both_right true b h = h
both_right false b h = absurd (cc h)

pub not_true : (b : Bool) → not b ≡ true → b ≡ false
not_true true h = absurd (cc h)
not_true false h = refl

or_false : (b : Bool) → (b || false) ≡ b
or_false true = refl
or_false false = refl

not_or : (a b : Bool) → not (a || b) ≡ (not a && not b)
not_or true b = refl
not_or false b = refl

-- ---- filters

cons_end : {A : Type 0} (o : Option A) (xs ys : List A) → cons_option o (xs ++ ys) ≡ cons_option o xs ++ ys
cons_end None xs ys = refl
cons_end (Some x) xs ys = refl

cons_nil : {A : Type 0} (o : Option A) → cons_option o [] ≡ option_to_list o
cons_nil None = refl
cons_nil (Some x) = refl

filter_as : {A : Type 0} (f g : A → Bool) (xs : List A) → ((x : A) → f x ≡ g x) → filter f xs ≡ filter g xs
filter_as f g [] h = refl
filter_as f g (x ∷ xs) h = rw (h x, filter_as f g xs h) refl

filter_step : {A : Type 0} (f g : A → Bool) (x : A) (b : Bool) → f x ≡ b → (xs : List A) → filter (λ y. f y && g y) xs ≡ filter g (filter f xs)
    → cond (f x && g x) (x ∷ filter (λ y. f y && g y) xs) (filter (λ y. f y && g y) xs) ≡ filter g (cond (f x) (x ∷ filter f xs) (filter f xs))
filter_step f g x true e xs ih = rw (e, ih) refl
filter_step f g x false e xs ih = rw (e, ih) refl

filter_both : {A : Type 0} (f g : A → Bool) (xs : List A) → filter (λ x. f x && g x) xs ≡ filter g (filter f xs)
filter_both f g [] = refl
filter_both f g (x ∷ xs) = filter_step f g x (f x) refl xs (filter_both f g xs)

and_swap : (a b : Bool) → (a && b) ≡ (b && a)
and_swap true true = refl
and_swap true false = refl
and_swap false true = refl
and_swap false false = refl

filter_swap : {A : Type 0} (f g : A → Bool) (xs : List A) → filter g (filter f xs) ≡ filter f (filter g xs)
filter_swap f g xs = sym (filter_both f g xs) ∙ filter_as (λ x. f x && g x) (λ x. g x && f x) xs (λ x. and_swap (f x) (g x)) ∙ filter_both g f xs

filter_true : {A : Type 0} (xs : List A) → filter (λ x. true) xs ≡ xs
filter_true [] = refl
filter_true (x ∷ xs) = ap (λ z. x ∷ z) (filter_true xs)

-- ---- requests

requests_behind : (n : ℕ) (h : History) (e : Entry) → filter_map numbered (enumerate_from n (h ++ e ∷ [])) ≡ filter_map numbered (enumerate_from n h) ++ option_to_list (numbered (n + length h, e))
requests_behind n [] e = let z : n + 0 ≡ n = omega arith in rw z (cons_nil (numbered (n, e)))
requests_behind n (x ∷ xs) e =
    let z : n + 1 + length xs ≡ n + suc (length xs) = omega arith in
    ap (cons_option (numbered (n, x))) (requests_behind (n + 1) xs e ∙ ap (λ (k : ℕ). filter_map numbered (enumerate_from (n + 1) xs) ++ option_to_list (numbered (k, e))) z)
    ∙ cons_end (numbered (n, x)) (filter_map numbered (enumerate_from (n + 1) xs)) (option_to_list (numbered (n + suc (length xs), e)))

pub requests_more : (h : History) (e : Entry) → requests (h ++ e ∷ []) ≡ requests h ++ option_to_list (numbered (length h, e))
requests_more h e = let z : 0 + length h ≡ length h = omega arith in requests_behind 0 h e ∙ ap (λ (k : ℕ). requests h ++ option_to_list (numbered (k, e))) z

-- ---- what is kept

-- an entry more settles what it settles
open_more : (h : History) (e : Entry) (x : ℕ × Pending) → is_open (h ++ e ∷ []) x ≡ (is_open h x && not (settles x.0 e))
open_more h e x =
    ap not (list_any-append (settles x.0) h (e ∷ []) ∙ ap (λ (b : Bool). list_any (settles x.0) h || b) (or_false (settles x.0 e)))
    ∙ not_or (list_any (settles x.0) h) (settles x.0 e)

kept_split : (h : History) (e : Entry) → kept_requests (h ++ e ∷ []) ≡ filter (λ x. not (settles x.0 e)) (filter (is_open h) (requests h ++ option_to_list (numbered (length h, e))))
kept_split h e =
    ap (filter (is_open (h ++ e ∷ []))) (requests_more h e)
    ∙ filter_as (is_open (h ++ e ∷ [])) (λ x. is_open h x && not (settles x.0 e)) (requests h ++ option_to_list (numbered (length h, e))) (open_more h e)
    ∙ filter_both (is_open h) (λ x. not (settles x.0 e)) (requests h ++ option_to_list (numbered (length h, e)))

-- a new request is kept behind the others, since nothing has settled its number
pub kept_pend : (h : History) (m ask : ℕ) (peer target : List ℕ) (scrip : Option (List ℕ)) (secret : List ℕ) → list_any (settles (length h)) h ≡ false
    → kept_requests (h ++ Pend m ask peer target scrip secret ∷ []) ≡ kept_requests h ++ (length h, record { ask = ask; peer = peer; target = target; scrip = scrip; secret = secret }) ∷ []
kept_pend h m ask peer target scrip secret free =
    kept_split h (Pend m ask peer target scrip secret)
    ∙ filter_true (filter (is_open h) (requests h ++ (length h, record { ask = ask; peer = peer; target = target; scrip = scrip; secret = secret }) ∷ []))
    ∙ filter-append (is_open h) (requests h) ((length h, record { ask = ask; peer = peer; target = target; scrip = scrip; secret = secret }) ∷ [])
    ∙ (rw free refl)

-- a settlement takes its request off
pub kept_done : (h : History) (m n price : ℕ) (change : Option (List ℕ)) (got : Option Held) → kept_requests (h ++ Done m n price change got ∷ []) ≡ filter (λ x. not (n == x.0)) (kept_requests h)
kept_done h m n price change got =
    kept_split h (Done m n price change got)
    ∙ ap (λ (xs : List (ℕ × Pending)). filter (λ x. not (n == x.0)) (filter (is_open h) xs)) (append-nil (requests h))

pub kept_refused : (h : History) (m n refusal : ℕ) → kept_requests (h ++ Refused m n refusal ∷ []) ≡ filter (λ x. not (n == x.0)) (kept_requests h)
kept_refused h m n refusal =
    kept_split h (Refused m n refusal)
    ∙ ap (λ (xs : List (ℕ × Pending)). filter (λ x. not (n == x.0)) (filter (is_open h) xs)) (append-nil (requests h))

-- an entry that asks nothing and settles nothing changes nothing of it
pub kept_still : (h : History) (e : Entry) → pending_of e ≡ None → ((n : ℕ) → settles n e ≡ false) → kept_requests (h ++ e ∷ []) ≡ kept_requests h
kept_still h e asks settles_none =
    kept_split h e
    ∙ ap (λ (o : Option Pending). filter (λ x. not (settles x.0 e)) (filter (is_open h) (requests h ++ option_to_list (option_map (λ p. (length h, p)) o)))) asks
    ∙ filter_as (λ x. not (settles x.0 e)) (λ x. true) (filter (is_open h) (requests h ++ [])) (λ x. ap not (settles_none x.0))
    ∙ filter_true (filter (is_open h) (requests h ++ []))
    ∙ ap (filter (is_open h)) (append-nil (requests h))

-- ---- the request of a number

none_behind : (h : History) (n : ℕ) → length h ≤ n → slice_get h n ≡ None
none_behind [] n le = refl
none_behind (x ∷ xs) zero le = absurd (omega (arith, le))
none_behind (x ∷ xs) (suc n) le = none_behind xs n (omega (arith, le))

-- a kept request is that of an entry
pub not_kept : (h : History) (n : ℕ) → length h ≤ n → is_kept h n ≡ false
not_kept h n le = let e = none_behind h n le in rw e refl

other : (n k : ℕ) → (n ≡ k → ⊥) → (n == k) ≡ false
other n k apart = elim (by_cases (n == k)) [ inr f ↦ f | inl t ↦ absurd (apart (eqb-true n k t)) ]

abbrev numbered_as : ℕ → Option Pending → Option (ℕ × Pending)
numbered_as k o = option_map (λ p. (k, p)) o

passed_over : (n k : ℕ) (o : Option Pending) (xs ys : List (ℕ × Pending)) → (n ≡ k → ⊥) → filter (λ x. n == x.0) xs ≡ ys → filter (λ x. n == x.0) (cons_option (numbered_as k o) xs) ≡ ys
passed_over n k None xs ys apart rest = rest
passed_over n k (Some p) xs ys apart rest = rw (other n k apart) rest

none_below : (n k : ℕ) (h : History) → n < k → filter (λ x. n == x.0) (filter_map numbered (enumerate_from k h)) ≡ []
none_below n k [] lt = refl
none_below n k (e ∷ es) lt =
    passed_over n k (pending_of e) (filter_map numbered (enumerate_from (k + 1) es)) [] (λ is. absurd (omega (arith, lt, is))) (none_below n (k + 1) es (omega (arith, lt)))

first_of_them : (k : ℕ) (o : Option Pending) (xs : List (ℕ × Pending)) → filter (λ x. k == x.0) xs ≡ [] → filter (λ x. k == x.0) (cons_option (numbered_as k o) xs) ≡ option_to_list (numbered_as k o)
first_of_them k None xs rest = rest
first_of_them k (Some p) xs rest = let one : (k == k) ≡ true = eq-eqb k k refl in rw (one, rest) refl

numbered_at : (k i : ℕ) (h : History) → filter (λ x. k + i == x.0) (filter_map numbered (enumerate_from k h)) ≡ option_to_list (numbered_as (k + i) (pending_in h i))
numbered_at k i [] = refl
numbered_at k zero (e ∷ es) =
    let z : k + 0 ≡ k = omega arith in
    subst (λ (j : ℕ). filter (λ x. j == x.0) (filter_map numbered (enumerate_from k (e ∷ es))) ≡ option_to_list (numbered_as j (pending_of e))) (sym z)
    (first_of_them k (pending_of e) (filter_map numbered (enumerate_from (k + 1) es)) (none_below k (k + 1) es (omega arith)))
numbered_at k (suc i) (e ∷ es) =
    let z : k + 1 + i ≡ k + suc i = omega arith in
    passed_over (k + suc i) k (pending_of e) (filter_map numbered (enumerate_from (k + 1) es)) (option_to_list (numbered_as (k + suc i) (pending_in es i))) (λ is. absurd (omega (arith, is)))
    (subst (λ (j : ℕ). filter (λ x. j == x.0) (filter_map numbered (enumerate_from (k + 1) es)) ≡ option_to_list (numbered_as j (pending_in es i))) z (numbered_at (k + 1) i es))

-- the request of a kept number stands once among the kept requests
pub record KeptAt (h : History) (n : ℕ) : Type 0 where
  pub request : Pending
  pub is : pending_in h n ≡ Some request
  pub one : filter (λ x. n == x.0) (kept_requests h) ≡ (n, request) ∷ []

pub kept_at : (h : History) (n : ℕ) → is_kept h n ≡ true → KeptAt h n
kept_at h n kept = go (pending_in h n) refl kept
  where
    all : (j : ℕ) → j ≡ n → filter (λ x. j == x.0) (requests h) ≡ option_to_list (numbered_as j (pending_in h n)) → filter (λ x. n == x.0) (requests h) ≡ option_to_list (numbered_as n (pending_in h n))
    all j is at = subst (λ (k : ℕ). filter (λ x. k == x.0) (requests h) ≡ option_to_list (numbered_as k (pending_in h n))) is at

    go : (o : Option Pending) → pending_in h n ≡ o → (is_some o && not (list_any (settles n) h)) ≡ true → KeptAt h n
    go None is k = absurd cc
    go (Some p) is k =
        let free : not (list_any (settles n) h) ≡ true = k in
        let z : 0 + n ≡ n = omega arith in
        let at : filter (λ x. n == x.0) (requests h) ≡ option_to_list (numbered_as n (pending_in h n)) = all (0 + n) z (numbered_at 0 n h) in
        let here : filter (is_open h) ((n, p) ∷ []) ≡ (n, p) ∷ [] = rw free refl in
        record {
          request = p;
          is = is;
          one = filter_swap (is_open h) (λ x. n == x.0) (requests h) ∙ ap (filter (is_open h)) (at ∙ ap (λ (o : Option Pending). option_to_list (numbered_as n o)) is) ∙ here;
        }

-- ---- counts

count_one : {A : Type 0} (f g : A → Bool) (x : A) (xs : List A) → count_by f xs ≡ count_by f (filter (λ y. not (g y)) xs) + count_by f (filter g xs)
    → count_by f (x ∷ xs) ≡ count_by f (filter (λ y. not (g y)) (x ∷ xs)) + count_by f (filter g (x ∷ xs))
count_one f g x xs ih = go (g x) refl
  where
    go : (b : Bool) → g x ≡ b → count_by f (x ∷ xs) ≡ count_by f (filter (λ y. not (g y)) (x ∷ xs)) + count_by f (filter g (x ∷ xs))
    go true is = rw is (omega (arith, ih, counts_cons f x xs, counts_cons f x (filter g xs)))
    go false is = rw is (omega (arith, ih, counts_cons f x xs, counts_cons f x (filter (λ y. not (g y)) xs)))

count_both : {A : Type 0} (f g : A → Bool) (xs : List A) → count_by f xs ≡ count_by f (filter (λ y. not (g y)) xs) + count_by f (filter g xs)
count_both f g [] = refl
count_both f g (x ∷ xs) = count_one f g x xs (count_both f g xs)

-- without the request of a number one less is counted, where it counted
pub count_without : (h : History) (n : ℕ) (f : ℕ × Pending → Bool) (k : KeptAt h n) → count_by f (kept_requests h) ≡ count_by f (filter (λ x. not (n == x.0)) (kept_requests h)) + cond (f (n, k.request)) 1 0
count_without h n f k =
    let one : count_by f (filter (λ x. n == x.0) (kept_requests h)) ≡ cond (f (n, k.request)) 1 0 + 0 = ap (count_by f) k.one ∙ counts_cons f (n, k.request) [] in
    omega (arith, count_both f (λ x. n == x.0) (kept_requests h), one)
