-- Names that differ, and sales of all brokers.
use Rattle.std.proofs.Common.{◌≡◌, ℕ, ◌+◌, ◌<◌, Bool, true, false, cond, not, ◌&&◌, ◌||◌, List, [], ◌∷◌, ◌++◌, map, filter, flat_map, length, take, get_or, bytes_eq, Option, Some, None, refl, sym, ap, ap₂, ◌∙◌, subst, IsTrue, append-nil}
use Rattle.std.specs.Prelude.{is_some}
use Rattle.std.specs.List.{list_any, AllByRecursion}
use Rattle.std.proofs.lemmas.List.{map-append}
use Rattle.std.proofs.lemmas.List.Folds.{list_any-append}
use Rattle.std.proofs.lemmas.List.Concat.{flat_map-append}
use Rattle.std.proofs.lemmas.List.Elements.{filter-append}
use Rattle.mc_requests.specs.declared.limits.Limits.{Limits}
use Rattle.ledger_model.specs.Histories.{History}
use Rattle.ledger_model.specs.Houses.{site_name, is_broker}
use Rattle.ledger_model.specs.Stock.{Sale, sales}
use Rattle.ledger_model.proofs.AccountLaws as names
use Rattle.audit_model.specs.Books.{HaveOwnNames}
use Rattle.audit_model.specs.declared.sold.Sold.{Sold}
use Rattle.audit_sums.specs.declared.audit_sums.BookSums.{BookSums}
use Rattle.audit_model.specs.Sales.{sale_by}
use Rattle.audit_sums.specs.Learned.{name_of, sales_of}
use Rattle.audit_search.specs.Checks.{is_desk}
use Rattle.audit_search.specs.Markets.{comes_before, IsLeast, HasAll}
use Rattle.audit_search.specs.Audit.{AreLearned, has_book}
use Rattle.audit_search.proofs.Loops.{one_more, any_more}
use Rattle.audit_search.proofs.MarketLaws.{desk_is}
use Rattle.tree_search.specs.Desks.{KnowSales}
use Rattle.tree_search.specs.Names.{own_all, desk_sales}
use Rattle.tree_search.specs.Audit.{IsLeastMissing}
use Rattle.tree_search.proofs.DeskLaws.{vendor_sold}

-- ---- tests

or_true : (a : Bool) {b : Bool} → b ≡ true → (a || b) ≡ true
or_true true e = refl
or_true false e = e

or_false : (b : Bool) → (b || false) ≡ b
or_false true = refl
or_false false = refl

and_false : (a : Bool) {b : Bool} → b ≡ false → (a && b) ≡ false
and_false true e = e
and_false false e = refl

both : (a b : Bool) → (not a && b) ≡ true → (a ≡ false) × (b ≡ true)
both false true e = (refl, refl)
both false false e = absurd cc
both true b e = absurd cc

-- ---- one more book

abbrev pub has_name : List BookSums → List ℕ → Bool
has_name books name = list_any (λ s. bytes_eq name (name_of s)) books

-- a book whose name is that of one before it shares it
pub shared : (xs : List BookSums) (s : BookSums) (ys : List BookSums) → has_name xs (name_of s) ≡ true → own_all (xs ++ s ∷ ys) ≡ false
shared [] s ys has = absurd cc
shared (x ∷ xs) s ys has = go (bytes_eq (name_of s) (name_of x)) refl has (shared xs s ys)
  where
    go : (t : Bool) → bytes_eq (name_of s) (name_of x) ≡ t → (t || has_name xs (name_of s)) ≡ true → (has_name xs (name_of s) ≡ true → own_all (xs ++ s ∷ ys) ≡ false)
        → (not (list_any (λ w. bytes_eq (name_of w) (name_of x)) (xs ++ s ∷ ys)) && own_all (xs ++ s ∷ ys)) ≡ false
    go true e f ih =
        ap (λ (b : Bool). not b && own_all (xs ++ s ∷ ys))
        (list_any-append (λ w. bytes_eq (name_of w) (name_of x)) xs (s ∷ ys)
        ∙ or_true (list_any (λ w. bytes_eq (name_of w) (name_of x)) xs) (ap (λ (b : Bool). b || list_any (λ w. bytes_eq (name_of w) (name_of x)) ys) e))
    go false e f ih = and_false (not (list_any (λ w. bytes_eq (name_of w) (name_of x)) (xs ++ s ∷ ys))) (ih f)

-- one whose name is new does not
pub new_name : (xs : List BookSums) (s : BookSums) → has_name xs (name_of s) ≡ false → own_all xs ≡ true → own_all (xs ++ s ∷ []) ≡ true
new_name [] s new own = refl
new_name (x ∷ xs) s new own =
    let mine = both (list_any (λ w. bytes_eq (name_of w) (name_of x)) xs) (own_all xs) own in
    let fresh = neither (bytes_eq (name_of s) (name_of x)) (has_name xs (name_of s)) new in
    ap₂ (λ (a b : Bool). not a && b)
    (list_any-append (λ w. bytes_eq (name_of w) (name_of x)) xs (s ∷ []) ∙ ap₂ (λ (a b : Bool). a || (b || false)) mine.0 fresh.0)
    (new_name xs s fresh.1 mine.1)
  where
    neither : (a b : Bool) → (a || b) ≡ false → (a ≡ false) × (b ≡ false)
    neither true b e = absurd cc
    neither false b e = (refl, e)

pub known_more : (books : List BookSums) (i : ℕ) (s : BookSums) (name own : List ℕ) (o : Option ℕ) (n : ℕ) → i < length books → s ≡ get_or books i s → own ≡ name_of s
    → is_some o ≡ has_name (take i books) name → is_some (cond (bytes_eq name own) (Some n) o) ≡ has_name (take (i + 1) books) name
known_more books i s name own o n lt is named so_far =
    ap (λ (x : List ℕ). is_some (cond (bytes_eq name x) (Some n) o)) named ∙ go (bytes_eq name (name_of s)) o
    ∙ ap (λ (b : Bool). b || bytes_eq name (name_of s)) so_far
    ∙ sym (any_more (λ x. bytes_eq name (name_of x)) books i s lt is)
  where
    go : (t : Bool) (x : Option ℕ) → is_some (cond t (Some n) x) ≡ (is_some x || t)
    go true (Some y) = refl
    go true None = refl
    go false (Some y) = refl
    go false None = refl

pub sales_more : (books : List BookSums) (i : ℕ) (s : BookSums) → i < length books → s ≡ get_or books i s → desk_sales (take (i + 1) books) ≡ desk_sales (take i books) ++ cond (is_desk s) (sales_of s) []
sales_more books i s lt is =
    ap desk_sales (one_more books i s lt is)
    ∙ ap (flat_map sales_of) (filter-append is_desk (take i books) (s ∷ []))
    ∙ flat_map-append sales_of (filter is_desk (take i books)) (filter is_desk (s ∷ []))
    ∙ ap (λ (l : List Sold). desk_sales (take i books) ++ l) (go (is_desk s))
  where
    go : (b : Bool) → flat_map sales_of (cond b (s ∷ []) []) ≡ cond b (sales_of s) []
    go true = append-nil (sales_of s)
    go false = refl

-- ---- by the histories

module _ (limits : Limits) where
  any_is : (name : List ℕ) (ss : List BookSums) (hs : List History) → AreLearned limits ss hs → list_any (λ w. bytes_eq (name_of w) name) ss ≡ list_any (λ h. bytes_eq (site_name h) name) hs
  any_is name [] [] all = refl
  any_is name (s ∷ ss) (h ∷ hs) all = ap₂ (λ (a b : Bool). a || b) (ap (λ (n : List ℕ). bytes_eq n name) (sym all.0.sums.name')) (any_is name ss hs all.1)
  any_is name [] (h ∷ hs) all = absurd all
  any_is name (s ∷ ss) [] all = absurd all

  pub own_are : (ss : List BookSums) (hs : List History) → AreLearned limits ss hs → own_all ss ≡ true → HaveOwnNames hs
  own_are [] [] all own = tt
  own_are (s ∷ ss) (h ∷ hs) all own =
      let parts = both (list_any (λ w. bytes_eq (name_of w) (name_of s)) ss) (own_all ss) own in
      (sym (any_is (site_name h) ss hs all.1) ∙ ap (λ (n : List ℕ). list_any (λ w. bytes_eq (name_of w) n) ss) all.0.sums.name' ∙ parts.0, own_are ss hs all.1 parts.1)
  own_are [] (h ∷ hs) all own = absurd all
  own_are (s ∷ ss) [] all own = absurd all

  pub are_own : (ss : List BookSums) (hs : List History) → AreLearned limits ss hs → HaveOwnNames hs → own_all ss ≡ true
  are_own [] [] all own = refl
  are_own (s ∷ ss) (h ∷ hs) all own =
      ap₂ (λ (a b : Bool). not a && b)
      (ap (λ (n : List ℕ). list_any (λ w. bytes_eq (name_of w) n) ss) (sym all.0.sums.name') ∙ any_is (site_name h) ss hs all.1 ∙ own.0) (are_own ss hs all.1 own.1)
  are_own [] (h ∷ hs) all own = absurd all
  are_own (s ∷ ss) [] all own = absurd all

  -- ---- sales

  -- the vendors that the brokers sold of have books
  pub know_all : (has : List ℕ → Bool) (vs : List History) → ((name : List ℕ) → has name ≡ has_book vs name) → (ss : List BookSums) (hs : List History) → AreLearned limits ss hs → HasAll has (desk_sales ss)
      → AllByRecursion (KnowSales vs) hs
  know_all has vs same [] [] all there = tt
  know_all has vs same (s ∷ ss) (h ∷ hs) all there = go (is_desk s) refl there (know_all has vs same ss hs all.1)
    where
      front : (xs ys : List Sold) → HasAll has (xs ++ ys) → HasAll has xs × HasAll has ys
      front [] ys every = (tt, every)
      front (x ∷ xs) ys every = let more = front xs ys every.1 in ((every.0, more.0), more.1)

      each : (xs : List Sold) → HasAll has xs → AllByRecursion (λ (x : Sale). IsTrue (has_book vs x.vendor)) (map sale_by xs)
      each [] every = tt
      each (x ∷ xs) every = (sym (same x.vendor) ∙ every.0, each xs every.1)

      go : (b : Bool) → is_desk s ≡ b → HasAll has (flat_map sales_of (cond b (s ∷ filter is_desk ss) (filter is_desk ss))) → (HasAll has (desk_sales ss) → AllByRecursion (KnowSales vs) hs) → KnowSales vs h × AllByRecursion (KnowSales vs) hs
      go true e every later =
          let parts = front (sales_of s) (desk_sales ss) every in
          (subst (AllByRecursion (λ (x : Sale). IsTrue (has_book vs x.vendor))) all.0.sums.market'.sales' (each (sales_of s) parts.0), later parts.1)
      go false e every later =
          (subst (AllByRecursion (λ (x : Sale). IsTrue (has_book vs x.vendor))) (sym (vendor_sold limits s h all.0 (sym (desk_is limits s h all.0) ∙ e))) tt, later every)
  know_all has vs same [] (h ∷ hs) all there = absurd all
  know_all has vs same (s ∷ ss) [] all there = absurd all

  sales_are : (ss : List BookSums) (hs : List History) → AreLearned limits ss hs → map sale_by (desk_sales ss) ≡ flat_map sales (filter is_broker hs)
  sales_are [] [] all = refl
  sales_are (s ∷ ss) (h ∷ hs) all =
      ap (λ (b : Bool). map sale_by (flat_map sales_of (cond b (s ∷ filter is_desk ss) (filter is_desk ss)))) (desk_is limits s h all.0) ∙ go (is_broker h) (sales_are ss hs all.1)
    where
      go : (b : Bool) → map sale_by (desk_sales ss) ≡ flat_map sales (filter is_broker hs) → map sale_by (flat_map sales_of (cond b (s ∷ filter is_desk ss) (filter is_desk ss))) ≡ flat_map sales (cond b (h ∷ filter is_broker hs) (filter is_broker hs))
      go true ih = map-append sale_by (sales_of s) (desk_sales ss) ∙ ap₂ (λ (a b : List Sale). a ++ b) all.0.sums.market'.sales' ih
      go false ih = ih
  sales_are [] (h ∷ hs) all = absurd all
  sales_are (s ∷ ss) [] all = absurd all

  pub least_is : (has : List ℕ → Bool) (vs : List History) → ((name : List ℕ) → has name ≡ has_book vs name) → (ss : List BookSums) (hs : List History) (name : List ℕ) → AreLearned limits ss hs → IsLeast has (desk_sales ss) name
      → IsLeastMissing (filter is_broker hs) vs name
  least_is has vs same ss hs name all least = record {
    sold = ap (list_any (λ (s : Sale). bytes_eq s.vendor name)) (sym (sales_are ss hs all)) ∙ any_sold (desk_sales ss) ∙ least.sold;
    missing = sym (same name) ∙ least.lacking;
    least = subst (AllByRecursion (λ (s : Sale). has_book vs s.vendor ≡ false → comes_before s.vendor name ≡ false)) (sales_are ss hs all) (each (desk_sales ss) least.least);
  }
    where
      any_sold : (rs : List Sold) → list_any (λ (s : Sale). bytes_eq s.vendor name) (map sale_by rs) ≡ list_any (λ (s : Sold). bytes_eq s.vendor name) rs
      any_sold [] = refl
      any_sold (r ∷ rs) = ap (λ (b : Bool). bytes_eq r.vendor name || b) (any_sold rs)

      each : (rs : List Sold) → AllByRecursion (λ (s : Sold). has s.vendor ≡ false → comes_before s.vendor name ≡ false) rs
          → AllByRecursion (λ (s : Sale). has_book vs s.vendor ≡ false → comes_before s.vendor name ≡ false) (map sale_by rs)
      each [] every = tt
      each (r ∷ rs) every = ((λ none. every.0 (same r.vendor ∙ none)), each rs every.1)

-- names of some of the books differ, too
pub some_own : (test : History → Bool) (hs : List History) → HaveOwnNames hs → HaveOwnNames (filter test hs)
some_own test [] own = tt
some_own test (h ∷ hs) own = go (test h) (some_own test hs own.1)
  where
    none : (name : List ℕ) (gs : List History) → list_any (λ w. bytes_eq (site_name w) name) gs ≡ false → list_any (λ w. bytes_eq (site_name w) name) (filter test gs) ≡ false
    none name [] e = refl
    none name (g ∷ gs) e = on (test g) (bytes_eq (site_name g) name) refl e (none name gs)
      where
        on : (b t : Bool) → bytes_eq (site_name g) name ≡ t → (t || list_any (λ w. bytes_eq (site_name w) name) gs) ≡ false
            → (list_any (λ w. bytes_eq (site_name w) name) gs ≡ false → list_any (λ w. bytes_eq (site_name w) name) (filter test gs) ≡ false)
            → list_any (λ w. bytes_eq (site_name w) name) (cond b (g ∷ filter test gs) (filter test gs)) ≡ false
        on b true f d ih = absurd cc
        on true false f d ih = ap (λ (x : Bool). x || list_any (λ w. bytes_eq (site_name w) name) (filter test gs)) f ∙ ih d
        on false false f d ih = ih d

    go : (b : Bool) → HaveOwnNames (filter test hs) → HaveOwnNames (cond b (h ∷ filter test hs) (filter test hs))
    go true ih = (none (site_name h) hs own.0, ih)
    go false ih = ih
