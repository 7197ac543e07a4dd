-- What loops over names keep, at one more of them.
use Rattle.std.proofs.Common.{◌≡◌, ℕ, ◌+◌, ◌<◌, Bool, true, false, cond, not, ◌&&◌, ◌||◌, true≢false, List, [], ◌∷◌, ◌++◌, length, take, get_or, bytes_eq, Option, Some, None, refl, sym, ap, ap₂, ◌∙◌, subst}
use Rattle.std.specs.Prelude.{is_some, MatchOption}
use Rattle.std.specs.List.{list_any, AllByRecursion}
use Rattle.std.specs.Ordering.{nat_cmp, is_lt, ordering_reverse}
use Rattle.std.specs.declared.cmp.Ordering.{Ordering}
use Rattle.std.specs.declared.cmp.Ordering.TheVariants.{Less, Equal, Greater}
use Rattle.std.specs.Cmp.Lexicographic.{slice_cmp, nat_list_cmp_total}
use Rattle.std.proofs.lemmas.List.Folds.{list_any-append}
use Rattle.std.proofs.lemmas.Slice.Eq.{bytes_eq-Decides}
use Rattle.ledger_model.proofs.ListLaws.{all_append}
use Rattle.ledger_model.proofs.AccountLaws as names
use Rattle.audit_model.specs.declared.sold.Sold.{Sold}
use Rattle.audit_sums.specs.declared.audit_sums.BookSums.{BookSums}
use Rattle.audit_sums.specs.Learned.{name_of}
use Rattle.audit_search.specs.Checks.{is_desk}
use Rattle.audit_search.specs.Markets.{is_vendor_named, has_vendor, own_names, comes_before, IsLeast, HasAll}
use Rattle.audit_search.proofs.Loops.{any_more}

-- ---- the order of names

none_less : (o : Ordering) → o ≡ ordering_reverse o → is_lt o ≡ false
none_less Less e = absurd cc
none_less Equal e = refl
none_less Greater e = refl

not_before_itself : (a : List ℕ) → comes_before a a ≡ false
not_before_itself a = none_less (slice_cmp nat_cmp a a) (nat_list_cmp_total.antisymm a a)

less : (o : Ordering) → is_lt o ≡ true → o ≡ Less
less Less e = refl
less Equal e = absurd cc
less Greater e = absurd cc

before_before : (a b c : List ℕ) → comes_before a b ≡ true → comes_before b c ≡ true → comes_before a c ≡ true
before_before a b c e f = ap is_lt (nat_list_cmp_total.trans a b c (less (slice_cmp nat_cmp a b) e) (less (slice_cmp nat_cmp b c) f))

-- ---- the least name that is lacking

all_one : (P : Sold → Type 0) (xs : List Sold) (s : Sold) → AllByRecursion P xs → P s → AllByRecursion P (xs ++ s ∷ [])
all_one P xs s all one = all_append P xs (s ∷ []) all (one, tt)

all_by : (P Q : Sold → Type 0) → ((s : Sold) → P s → Q s) → (xs : List Sold) → AllByRecursion P xs → AllByRecursion Q xs
all_by P Q so [] all = tt
all_by P Q so (x ∷ xs) all = (so x all.0, all_by P Q so xs all.1)

any_kept : (test : Sold → Bool) (xs : List Sold) (s : Sold) → list_any test xs ≡ true → list_any test (xs ++ s ∷ []) ≡ true
any_kept test xs s e = list_any-append test xs (s ∷ []) ∙ ap (λ (b : Bool). b || list_any test (s ∷ [])) e

any_last : (test : Sold → Bool) (xs : List Sold) (s : Sold) → test s ≡ true → list_any test (xs ++ s ∷ []) ≡ true
any_last test xs s e = list_any-append test xs (s ∷ []) ∙ go (list_any test xs)
  where
    go : (b : Bool) → (b || (test s || false)) ≡ true
    go true = refl
    go false = ap (λ (c : Bool). c || false) e

same_bytes : (name : List ℕ) → bytes_eq name name ≡ true
same_bytes name = (bytes_eq-Decides name name).1 refl

module _ (has : List ℕ → Bool) (xs : List Sold) (s : Sold) where
  kept : (name : List ℕ) → IsLeast has xs name → (has s.vendor ≡ false → comes_before s.vendor name ≡ false) → IsLeast has (xs ++ s ∷ []) name
  kept name is one = record {
    sold = any_kept (λ x. bytes_eq x.vendor name) xs s is.sold;
    lacking = is.lacking;
    least = all_one (λ x. has x.vendor ≡ false → comes_before x.vendor name ≡ false) xs s is.least one;
  }

  fresh : has s.vendor ≡ false → AllByRecursion (λ x. has x.vendor ≡ false → comes_before x.vendor s.vendor ≡ false) xs → IsLeast has (xs ++ s ∷ []) s.vendor
  fresh lacks all = record {
    sold = any_last (λ x. bytes_eq x.vendor s.vendor) xs s (same_bytes s.vendor);
    lacking = lacks;
    least = all_one (λ x. has x.vendor ≡ false → comes_before x.vendor s.vendor ≡ false) xs s all (λ e. not_before_itself s.vendor);
  }

  pub least_same : (o : Option (List ℕ)) → has s.vendor ≡ true → MatchOption o (HasAll has xs) (IsLeast has xs) → MatchOption o (HasAll has (xs ++ s ∷ [])) (IsLeast has (xs ++ s ∷ []))
  least_same None there all = all_one (λ x. has x.vendor ≡ true) xs s all there
  least_same (Some name) there is = kept name is (λ e. absurd (true≢false (sym there ∙ e)))

  pub least_more : (o : Option (List ℕ)) (new : List ℕ) → has s.vendor ≡ false → MatchOption o (HasAll has xs) (IsLeast has xs)
      → MatchOption o (new ≡ s.vendor) (λ old. new ≡ cond (comes_before s.vendor old) s.vendor old) → IsLeast has (xs ++ s ∷ []) new
  least_more None new lacks all is =
      subst (IsLeast has (xs ++ s ∷ [])) (sym is) (fresh lacks (all_by (λ x. has x.vendor ≡ true) _ (λ x there e. absurd (true≢false (sym there ∙ e))) xs all))
  least_more (Some old) new lacks so_far is = subst (IsLeast has (xs ++ s ∷ [])) (sym is) (go (comes_before s.vendor old) refl)
    where
      not_before : (b : Bool) (x : Sold) → comes_before s.vendor old ≡ true → comes_before x.vendor old ≡ false → comes_before x.vendor s.vendor ≡ b → b ≡ false
      not_before true x first later e = absurd (true≢false (sym (before_before x.vendor s.vendor old e first) ∙ later))
      not_before false x first later e = refl

      go : (b : Bool) → comes_before s.vendor old ≡ b → IsLeast has (xs ++ s ∷ []) (cond b s.vendor old)
      go true e = fresh lacks (all_by (λ x. has x.vendor ≡ false → comes_before x.vendor old ≡ false) _ (λ x later f. not_before (comes_before x.vendor s.vendor) x e (later f) refl) xs so_far.least)
      go false e = kept old so_far (λ f. e)

-- tests that agree have the same least name
pub least_by : (f g : List ℕ → Bool) → ((name : List ℕ) → f name ≡ g name) → (xs : List Sold) (name : List ℕ) → IsLeast f xs name → IsLeast g xs name
least_by f g same xs name is = record {
  sold = is.sold;
  lacking = sym (same name) ∙ is.lacking;
  least = all_by (λ x. f x.vendor ≡ false → comes_before x.vendor name ≡ false) _ (λ x later e. later (same x.vendor ∙ e)) xs is.least;
}

pub all_by_same : (f g : List ℕ → Bool) → ((name : List ℕ) → f name ≡ g name) → (xs : List Sold) → HasAll f xs → HasAll g xs
all_by_same f g same xs all = all_by (λ x. f x.vendor ≡ true) _ (λ x there. sym (same x.vendor) ∙ there) xs all

-- ---- names of vendors

has_append : (xs ys : List BookSums) (name : List ℕ) → has_vendor (xs ++ ys) name ≡ (has_vendor xs name || has_vendor ys name)
has_append xs ys name = list_any-append (is_vendor_named name) xs ys

or_true : (a : Bool) {b : Bool} → b ≡ true → (a || b) ≡ true
or_true true e = refl
or_true false e = e

and_false : (a : Bool) {b : Bool} → b ≡ false → (a && b) ≡ false
and_false true e = e
and_false false e = refl

-- a vendor whose name is that of one before him shares it
pub shared : (xs : List BookSums) (s : BookSums) (ys : List BookSums) → is_desk s ≡ false → has_vendor xs (name_of s) ≡ true → own_names (xs ++ s ∷ ys) ≡ false
shared [] s ys vendor has = absurd cc
shared (x ∷ xs) s ys vendor has = go (is_desk x) (bytes_eq (name_of s) (name_of x)) refl has (shared xs s ys vendor)
  where
    here : bytes_eq (name_of s) (name_of x) ≡ true → has_vendor (xs ++ s ∷ ys) (name_of x) ≡ true
    here e =
        has_append xs (s ∷ ys) (name_of x)
        ∙ or_true (has_vendor xs (name_of x)) (ap₂ (λ (d t : Bool). (not d && t) || has_vendor ys (name_of x)) vendor (names.turned (name_of x) (name_of s) ∙ e))

    go : (d t : Bool) → bytes_eq (name_of s) (name_of x) ≡ t → ((not d && t) || has_vendor xs (name_of s)) ≡ true → (has_vendor xs (name_of s) ≡ true → own_names (xs ++ s ∷ ys) ≡ false)
        → ((d || not (has_vendor (xs ++ s ∷ ys) (name_of x))) && own_names (xs ++ s ∷ ys)) ≡ false
    go true t e f ih = ih f
    go false true e f ih = ap (λ (b : Bool). not b && own_names (xs ++ s ∷ ys)) (here e)
    go false false e f ih = and_false (not (has_vendor (xs ++ s ∷ ys) (name_of x))) (ih f)

-- one whose name is new does not
pub new_name : (xs : List BookSums) (s : BookSums) → (is_desk s || not (has_vendor xs (name_of s))) ≡ true → own_names xs ≡ true → own_names (xs ++ s ∷ []) ≡ true
new_name [] s new own = go (is_desk s)
  where
    go : (d : Bool) → ((d || true) && true) ≡ true
    go true = refl
    go false = refl
new_name (x ∷ xs) s new own = go (is_desk x) (is_desk s) refl (bytes_eq (name_of s) (name_of x)) refl new own (new_name xs s)
  where
    alike : (d : Bool) (t : Bool) → is_desk s ≡ d → bytes_eq (name_of s) (name_of x) ≡ t → has_vendor (xs ++ s ∷ []) (name_of x) ≡ (has_vendor xs (name_of x) || ((not d && t) || false))
    alike d t e f = has_append xs (s ∷ []) (name_of x) ∙ ap₂ (λ (a b : Bool). has_vendor xs (name_of x) || ((not a && b) || false)) e (names.turned (name_of x) (name_of s) ∙ f)

    or_false : (b : Bool) → (b || false) ≡ b
    or_false true = refl
    or_false false = refl

    both : (a b : Bool) → (a && b) ≡ true → (a ≡ true) × (b ≡ true)
    both true true e = (refl, refl)
    both true false e = absurd cc
    both false b e = absurd cc

    and_true : {a b : Bool} → a ≡ true → b ≡ true → (a && b) ≡ true
    and_true e f = ap₂ (λ (x y : Bool). x && y) e f

    go : (c d : Bool) → is_desk s ≡ d → (t : Bool) → bytes_eq (name_of s) (name_of x) ≡ t → (d || not ((not c && t) || has_vendor xs (name_of s))) ≡ true
        → ((c || not (has_vendor xs (name_of x))) && own_names xs) ≡ true → ((d || not (has_vendor xs (name_of s))) ≡ true → own_names xs ≡ true → own_names (xs ++ s ∷ []) ≡ true)
        → ((c || not (has_vendor (xs ++ s ∷ []) (name_of x))) && own_names (xs ++ s ∷ [])) ≡ true
    go true d e t f fresh mine ih = ih fresh mine
    go false true e t f fresh mine ih =
        let parts = both (not (has_vendor xs (name_of x))) (own_names xs) mine in
        and_true (ap not (alike true t e f ∙ or_false (has_vendor xs (name_of x))) ∙ parts.0) (ih refl parts.1)
    go false false e true f fresh mine ih = absurd cc
    go false false e false f fresh mine ih =
        let parts = both (not (has_vendor xs (name_of x))) (own_names xs) mine in
        and_true (ap not (alike false false e f ∙ or_false (has_vendor xs (name_of x))) ∙ parts.0) (ih fresh parts.1)

-- the names of one more book
pub known_desk : (books : List BookSums) (i : ℕ) (s : BookSums) (name : List ℕ) (b : Bool) → i < length books → s ≡ get_or books i s → is_desk s ≡ true
    → b ≡ has_vendor (take i books) name → b ≡ has_vendor (take (i + 1) books) name
known_desk books i s name b lt is desk so_far =
    so_far ∙ sym (any_more (is_vendor_named name) books i s lt is ∙ ap (λ (d : Bool). has_vendor (take i books) name || (not d && bytes_eq name (name_of s))) desk ∙ or_false (has_vendor (take i books) name))
  where
    or_false : (b : Bool) → (b || false) ≡ b
    or_false true = refl
    or_false false = refl

pub known_vendor : (books : List BookSums) (i : ℕ) (s : BookSums) (name own : List ℕ) (o : Option ℕ) (n : ℕ) → i < length books → s ≡ get_or books i s → is_desk s ≡ false → own ≡ name_of s
    → is_some o ≡ has_vendor (take i books) name → is_some (cond (bytes_eq name own) (Some n) o) ≡ has_vendor (take (i + 1) books) name
known_vendor books i s name own o n lt is vendor named so_far =
    ap (λ (x : List ℕ). is_some (cond (bytes_eq name x) (Some n) o)) named ∙ go (bytes_eq name (name_of s)) o
    ∙ ap (λ (b : Bool). b || bytes_eq name (name_of s)) so_far
    ∙ sym (any_more (is_vendor_named name) books i s lt is ∙ ap (λ (d : Bool). has_vendor (take i books) name || (not d && bytes_eq name (name_of s))) vendor)
  where
    go : (t : Bool) (x : Option ℕ) → is_some (cond t (Some n) x) ≡ (is_some x || t)
    go true (Some y) = refl
    go true None = refl
    go false (Some y) = refl
    go false None = refl
