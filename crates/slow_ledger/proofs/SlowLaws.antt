-- The definitions over the entries from a number on.
use Rattle.std.proofs.Common.{◌≡◌, ℕ, zero, suc, ◌+◌, ◌<◌, max, Bool, true, false, cond, eqb, ◌||◌, List, [], ◌∷◌, ◌++◌, length, take, drop, find, filter, filter_map, Option, Some, None, option_map, option_to_list, slice_get, IfSome, add-one, refl, sym, ap, ◌∙◌, arith, subst}
use Rattle.std.specs.List.{list_any, last_or, cons_option}
use Rattle.std.proofs.lemmas.Option.{slice_get_within}
use Rattle.scrip_form.specs.Issuing.{Issuing}
use Rattle.mc_records.specs.Entry.{Entry, moment_of}
use Rattle.ledger_model.specs.Histories.{History, time}
use Rattle.ledger_model.specs.Houses.{terms_of, terms_by, terms_in}
use Rattle.ledger_model.specs.Goods.{is_goods_of, goods_price, price_in}

-- the entry of a number below the length, between those before it and those after it
pub record Next {A : Type 0} (h : List A) (n : ℕ) : Type 0 where
  pub entry : A
  pub stands : slice_get h n ≡ Some entry
  pub rest : drop n h ≡ entry ∷ drop (n + 1) h
  pub front : take (n + 1) h ≡ take n h ++ entry ∷ []

pub next : {A : Type 0} (h : List A) (n : ℕ) → n < length h → Next h n
next [] n lt = absurd (omega (arith, lt))
next (x ∷ xs) zero lt = record { entry = x; stands = refl; rest = refl; front = refl }
next (x ∷ xs) (suc n) lt =
    let r = next xs n (omega (arith, lt)) in
    record {
      entry = r.entry;
      stands = r.stands;
      rest = rw add-one (r.rest ∙ ap (λ (k : ℕ). r.entry ∷ drop k xs) (add-one n));
      front = rw add-one (ap (λ (t : List _). x ∷ t) (ap (λ (k : ℕ). take k xs) (sym (add-one n)) ∙ r.front));
    }

-- what is said of the entry of the number
pub of_next : {A : Type 0} (P : A → Type 0) (h : List A) (n : ℕ) (x : Next h n) → IfSome (slice_get h n) P → P x.entry
of_next {A = A} P h n x said = subst (λ (o : Option A). IfSome o P) x.stands said

-- What is found in a list, one element after the other: what is said of the element of a number, and of those
-- behind it, is said of all from that number on.
pub from_next : {A B : Type 0} (op : B → B → B) (f : A → B) (F : List A → B) → ((x : A) (xs : List A) → F (x ∷ xs) ≡ op (f x) (F xs))
    → (h : List A) (n : ℕ) (r : B) → n < length h → IfSome (slice_get h n) (λ x. r ≡ f x) → op r (F (drop (n + 1) h)) ≡ F (drop n h)
from_next {B = B} op f F cons h n r lt said =
    let x = next h n lt in
    let is : r ≡ f x.entry = of_next (λ y. r ≡ f y) h n x said in
    ap (λ (b : B). op b (F (drop (n + 1) h))) is ∙ sym (cons x.entry (drop (n + 1) h)) ∙ ap F (sym x.rest)

same_entry : (a b : Entry) (o : Option Entry) → o ≡ Some a → o ≡ Some b → a ≡ b
same_entry a b o e f = cc

pub prefix_at : (h : History) (n : ℕ) (e : Entry) → slice_get h n ≡ Some e → take (n + 1) h ≡ take n h ++ e ∷ []
prefix_at h n e got =
    let x = next h n (slice_get_within h n e got) in
    x.front ∙ ap (λ (y : Entry). take n h ++ y ∷ []) (same_entry x.entry e (slice_get h n) x.stands got)

-- ---- time

pub time_more : (h : History) (n t m r : ℕ) → n < length h → max t (time (drop n h)) ≡ time h
    → IfSome (slice_get h n) (λ e. m ≡ moment_of e) → r ≡ max m t → max r (time (drop (n + 1) h)) ≡ time h
time_more h n t m r lt so_far said is_max =
    let x = next h n lt in
    let is : m ≡ moment_of x.entry = of_next (λ e. m ≡ moment_of e) h n x said in
    let all : max t (max (moment_of x.entry) (time (drop (n + 1) h))) ≡ time h = rw x.rest at so_far in
    omega arith

-- ---- the first that is found

abbrev pub or_else : {A : Type 0} → Option A → Option A → Option A
or_else (Some x) o = Some x
or_else None o = o

find_cons : {A B : Type 0} (test : B → Bool) (f : A → Option B) (a : A) (more : List A)
    → find test (filter_map f (a ∷ more)) ≡ or_else (find test (option_to_list (f a))) (find test (filter_map f more))
find_cons {B = B} test f a more = go (f a)
  where
    on : (b : Bool) (x : B) → cond b (Some x) (find test (filter_map f more)) ≡ or_else (cond b (Some x) None) (find test (filter_map f more))
    on true x = refl
    on false x = refl

    go : (o : Option B) → find test (cons_option o (filter_map f more)) ≡ or_else (find test (option_to_list o)) (find test (filter_map f more))
    go None = refl
    go (Some x) = on (test x) x

pub terms_more : (h : History) (n issuer : ℕ) (r : Option Issuing) → n < length h → terms_in (drop n h) issuer ≡ terms_in h issuer
    → IfSome (slice_get h n) (λ e. r ≡ terms_by (option_to_list (terms_of e)) issuer) → or_else r (terms_in (drop (n + 1) h) issuer) ≡ terms_in h issuer
terms_more h n issuer r lt so_far said =
    let x = next h n lt in
    let is : r ≡ terms_by (option_to_list (terms_of x.entry)) issuer = of_next (λ e. r ≡ terms_by (option_to_list (terms_of e)) issuer) h n x said in
    ap (λ (o : Option Issuing). or_else o (terms_in (drop (n + 1) h) issuer)) is
    ∙ sym (find_cons (λ t. eqb t.issuer issuer) terms_of x.entry (drop (n + 1) h)) ∙ (rw x.rest at so_far)

-- ---- tests on what entries bring

any_cons : {A B : Type 0} (test : B → Bool) (f : A → Option B) (a : A) (more : List A)
    → list_any test (filter_map f (a ∷ more)) ≡ (list_any test (option_to_list (f a)) || list_any test (filter_map f more))
any_cons {B = B} test f a more = go (f a)
  where
    on : (b c : Bool) → (b || c) ≡ ((b || false) || c)
    on true c = refl
    on false c = refl

    go : (o : Option B) → list_any test (cons_option o (filter_map f more)) ≡ (list_any test (option_to_list o) || list_any test (filter_map f more))
    go None = refl
    go (Some x) = on (test x) (list_any test (filter_map f more))

pub any_more : {B : Type 0} (test : B → Bool) (f : Entry → Option B) (h : History) (n : ℕ) (r whole : Bool) → n < length h
    → list_any test (filter_map f (drop n h)) ≡ whole → IfSome (slice_get h n) (λ e. r ≡ list_any test (option_to_list (f e)))
    → (r || list_any test (filter_map f (drop (n + 1) h))) ≡ whole
any_more test f h n r whole lt so_far said =
    let x = next h n lt in
    let is : r ≡ list_any test (option_to_list (f x.entry)) = of_next (λ e. r ≡ list_any test (option_to_list (f e))) h n x said in
    ap (λ (b : Bool). b || list_any test (filter_map f (drop (n + 1) h))) is ∙ sym (any_cons test f x.entry (drop (n + 1) h)) ∙ (rw x.rest at so_far)

-- ---- prices

abbrev price_of : List ℕ → Option Entry → History → Option ℕ
price_of target o h = option_map goods_price (last_or o (filter (is_goods_of target) h))

price_snoc : (target : List ℕ) (o : Option Entry) (h : History) (e : Entry) → price_of target o (h ++ e ∷ []) ≡ cond (is_goods_of target e) (Some (goods_price e)) (price_of target o h)
price_snoc target o [] e = go (is_goods_of target e)
  where
    go : (b : Bool) → option_map goods_price (last_or o (cond b (e ∷ []) [])) ≡ cond b (Some (goods_price e)) (option_map goods_price o)
    go true = refl
    go false = refl
price_snoc target o (x ∷ xs) e = go (is_goods_of target x) (price_snoc target (Some x) xs e) (price_snoc target o xs e)
  where
    go : (b : Bool) → price_of target (Some x) (xs ++ e ∷ []) ≡ cond (is_goods_of target e) (Some (goods_price e)) (price_of target (Some x) xs)
        → price_of target o (xs ++ e ∷ []) ≡ cond (is_goods_of target e) (Some (goods_price e)) (price_of target o xs)
        → option_map goods_price (last_or o (cond b (x ∷ filter (is_goods_of target) (xs ++ e ∷ [])) (filter (is_goods_of target) (xs ++ e ∷ []))))
        ≡ cond (is_goods_of target e) (Some (goods_price e)) (option_map goods_price (last_or o (cond b (x ∷ filter (is_goods_of target) xs) (filter (is_goods_of target) xs))))
    go true a b = a
    go false a b = b

pub price_more : (h : History) (n : ℕ) (target : List ℕ) (before r : Option ℕ) → n < length h → before ≡ price_in (take n h) target
    → IfSome (slice_get h n) (λ e. r ≡ cond (is_goods_of target e) (Some (goods_price e)) before) → r ≡ price_in (take (n + 1) h) target
price_more h n target before r lt so_far said =
    let x = next h n lt in
    let is : r ≡ cond (is_goods_of target x.entry) (Some (goods_price x.entry)) before = of_next (λ e. r ≡ cond (is_goods_of target e) (Some (goods_price e)) before) h n x said in
    is ∙ ap (λ (o : Option ℕ). cond (is_goods_of target x.entry) (Some (goods_price x.entry)) o) so_far ∙ sym (price_snoc target None (take n h) x.entry) ∙ ap (λ (k : History). price_in k target) (sym x.front)
