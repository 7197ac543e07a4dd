-- What is found of books is what is answered of their histories.
use Rattle.std.proofs.Common.{◌≡◌, ℕ, zero, suc, ◌+◌, ◌≤◌, ◌^◌, Bool, true, false, cond, not, ◌||◌, true≢false, List, [], ◌∷◌, map, filter, bytes_eq, Option, Some, None, slice_get, Ok, Err, option_map, refl, sym, ap, ◌∙◌, subst, arith}
use Rattle.std.specs.Prelude.{is_some, MatchOption}
use Rattle.std.specs.List.{list_any, AllByRecursion}
use Rattle.std.proofs.lemmas.Slice.Eq.{bytes_eq-Decides}
use Rattle.mc_requests.specs.declared.limits.Limits.{Limits}
use Rattle.name_places.specs.NamePlaces.{NamePlacesView, place_of}
use Rattle.ledger_model.specs.declared.numbers.TheConstants.{BROKER_KIND, VENDOR_KIND}
use Rattle.ledger_model.specs.Histories.{History}
use Rattle.ledger_model.specs.Houses.{site_name, is_broker}
use Rattle.ledger_model.specs.Stock.{sales}
use Rattle.audit_model.specs.declared.sums.VendorSums.{VendorSums}
use Rattle.audit_model.specs.Books.{IsBook}
use Rattle.audit_model.specs.Brokers.{AreBooksOf}
use Rattle.audit_sums.specs.declared.audit_sums.BookSums.{BookSums}
use Rattle.audit_sums.specs.Learned.{name_of}
use Rattle.audit_search.specs.declared.fault.BooksFault.{BooksFault}
use Rattle.audit_search.specs.declared.fault.BooksFault.TheVariants as faults
use Rattle.audit_search.specs.Checks.{is_desk}
use Rattle.audit_search.specs.Filed.{place_in}
use Rattle.audit_search.specs.Markets.{has_vendor, own_names, IsLeast, HasAll, AreInOrder}
use Rattle.audit_search.specs.Audit.{AreLearned, NamesBook}
use Rattle.audit_search.proofs.MarketLaws as markets
use Rattle.audit_search.proofs.AuditLaws.{broker_book, vendor_book}
use Rattle.relayed_books.specs.Tree.{AreOfTree, sold_over}
use Rattle.relayed_books.proofs.Sales.{only_brokers}
use Rattle.relayed_books.proofs.Balance.{none_balanced}
use Rattle.relay_core.specs.declared.tree.BrokerSums.{BrokerSums}
use Rattle.relay_core.specs.declared.tree.Tree.{Tree}
use Rattle.relay_core.specs.Sums.{sums_of_vendor, AreByName}
use Rattle.tree_search.specs.declared.totals.Totals.{Totals}
use Rattle.tree_search.specs.Desks.{ArePlacesOf, KnowSales}
use Rattle.tree_search.specs.Names.{own_all, desk_sales}
use Rattle.tree_search.specs.Totals.{brokers_among, vendors_among, AreTotals, IsFound, NamesAt}
use Rattle.tree_search.specs.Audit.{TreeAudited, IsTreeOf}
use Rattle.tree_search.proofs.DeskLaws.{vendor_sold}
use Rattle.tree_search.proofs.NameLaws.{own_are, are_own, know_all, least_is, some_own}

-- ---- places

-- the name that has a place is the one that stands there
place_one : (xs : List (List ℕ)) (a b : List ℕ) (n : ℕ) → place_in xs a ≡ Some n → place_in xs b ≡ Some n → a ≡ b
place_one [] a b n e f = absurd cc
place_one (x ∷ xs) a b n e f = go (bytes_eq x a) refl e (bytes_eq x b) refl f (place_in xs a) refl (place_in xs b) refl (λ k. place_one xs a b k)
  where
    some_is : (m k : ℕ) → Some m ≡ Some k → m ≡ k
    some_is m k g = cc

    go : (s : Bool) → bytes_eq x a ≡ s → cond s (Some 0) (option_map (λ k. k + 1) (place_in xs a)) ≡ Some n → (t : Bool) → bytes_eq x b ≡ t → cond t (Some 0) (option_map (λ k. k + 1) (place_in xs b)) ≡ Some n
        → (o : Option ℕ) → place_in xs a ≡ o → (p : Option ℕ) → place_in xs b ≡ p → ((k : ℕ) → place_in xs a ≡ Some k → place_in xs b ≡ Some k → a ≡ b) → a ≡ b
    go true i e true j f o g p h ih = sym ((bytes_eq-Decides x a).0 i) ∙ (bytes_eq-Decides x b).0 j
    go true i e false j f o g None h ih = absurd (cc (sym (ap (option_map (λ (k : ℕ). k + 1)) h) ∙ f))
    go true i e false j f o g (Some k) h ih = absurd (omega (arith, some_is (k + 1) 0 (sym (ap (option_map (λ (m : ℕ). m + 1)) h) ∙ f ∙ sym e)))
    go false i e true j f None g p h ih = absurd (cc (sym (ap (option_map (λ (k : ℕ). k + 1)) g) ∙ e))
    go false i e true j f (Some k) g p h ih = absurd (omega (arith, some_is (k + 1) 0 (sym (ap (option_map (λ (m : ℕ). m + 1)) g) ∙ e ∙ sym f)))
    go false i e false j f None g p h ih = absurd (cc (sym (ap (option_map (λ (k : ℕ). k + 1)) g) ∙ e))
    go false i e false j f (Some k) g None h ih = absurd (cc (sym (ap (option_map (λ (k : ℕ). k + 1)) h) ∙ f))
    go false i e false j f (Some k) g (Some l) h ih =
        let one : k + 1 ≡ l + 1 = some_is (k + 1) (l + 1) (sym (ap (option_map (λ (k : ℕ). k + 1)) g) ∙ e ∙ sym f ∙ ap (option_map (λ (k : ℕ). k + 1)) h) in
        let same : l ≡ k = omega (arith, one) in
        ih k g (h ∙ ap (λ (m : ℕ). Some m) same)

pub places_of : (limits : Limits) (books : List BookSums) (hs : List History) (names : NamePlacesView) → AreLearned limits books hs → ((name : List ℕ) → is_some (place_of names name) ≡ has_vendor books name)
    → ((name : List ℕ) → place_of names name ≡ place_in (map name_of (filter (λ s. not (is_desk s)) books)) name) → ArePlacesOf (vendors_among hs) names
places_of limits books hs names all known placed = record {
  known = λ name. known name ∙ markets.has_is limits name books hs all;
  apart = λ a b n e f. place_one (map name_of (filter (λ s. not (is_desk s)) books)) a b n (sym (placed a) ∙ e) (sym (placed b) ∙ f);
}

-- by what an option of them says
pub places_by : (limits : Limits) (books : List BookSums) (hs : List History) (o : Option NamePlacesView) (names : NamePlacesView) → AreLearned limits books hs → o ≡ Some names
    → MatchOption o (Unit {0}) (λ ns. (name : List ℕ) → is_some (place_of ns name) ≡ has_vendor books name)
    → MatchOption o (Unit {0}) (λ ns. (name : List ℕ) → place_of ns name ≡ place_in (map name_of (filter (λ s. not (is_desk s)) books)) name) → ArePlacesOf (vendors_among hs) names
places_by limits books hs o names all is known placed =
    places_of limits books hs names all
    (subst (λ (x : Option NamePlacesView). MatchOption x (Unit {0}) (λ ns. (name : List ℕ) → is_some (place_of ns name) ≡ has_vendor books name)) is known)
    (subst (λ (x : Option NamePlacesView). MatchOption x (Unit {0}) (λ ns. (name : List ℕ) → place_of ns name ≡ place_in (map name_of (filter (λ s. not (is_desk s)) books)) name)) is placed)

-- ---- books

module _ (limits : Limits) where
  broker_books : (ss : List BookSums) (hs : List History) → AreLearned limits ss hs → AllByRecursion (IsBook limits BROKER_KIND) (brokers_among hs)
  broker_books [] [] all = tt
  broker_books (s ∷ ss) (h ∷ hs) all = go (is_broker h) refl (broker_books ss hs all.1)
    where
      go : (b : Bool) → is_broker h ≡ b → AllByRecursion (IsBook limits BROKER_KIND) (brokers_among hs) → AllByRecursion (IsBook limits BROKER_KIND) (cond b (h ∷ brokers_among hs) (brokers_among hs))
      go true e ih = (broker_book limits s h all.0 e, ih)
      go false e ih = ih
  broker_books [] (h ∷ hs) all = absurd all
  broker_books (s ∷ ss) [] all = absurd all

  vendor_books : (ss : List BookSums) (hs : List History) → AreLearned limits ss hs → AllByRecursion (IsBook limits VENDOR_KIND) (vendors_among hs)
  vendor_books [] [] all = tt
  vendor_books (s ∷ ss) (h ∷ hs) all = go (is_broker h) refl (vendor_books ss hs all.1)
    where
      go : (b : Bool) → is_broker h ≡ b → AllByRecursion (IsBook limits VENDOR_KIND) (vendors_among hs) → AllByRecursion (IsBook limits VENDOR_KIND) (cond (not b) (h ∷ vendors_among hs) (vendors_among hs))
      go true e ih = ih
      go false e ih = (vendor_book limits s h all.0 e, ih)
  vendor_books [] (h ∷ hs) all = absurd all
  vendor_books (s ∷ ss) [] all = absurd all

some_of : (P : History → Type 0) (test : History → Bool) (hs : List History) → AllByRecursion P hs → AllByRecursion P (filter test hs)
some_of P test [] all = tt
some_of P test (h ∷ hs) all = go (test h) (some_of P test hs all.1)
  where
    go : (b : Bool) → AllByRecursion P (filter test hs) → AllByRecursion P (cond b (h ∷ filter test hs) (filter test hs))
    go true ih = (all.0, ih)
    go false ih = ih

no_brokers : (limits : Limits) (ss : List BookSums) (hs : List History) → AreLearned limits ss hs → list_any is_desk ss ≡ false → brokers_among hs ≡ []
no_brokers limits [] [] all none = refl
no_brokers limits (s ∷ ss) (h ∷ hs) all none = go (is_broker h) (ap (λ (b : Bool). b || list_any is_desk ss) (sym (markets.desk_is limits s h all.0)) ∙ none) (no_brokers limits ss hs all.1)
  where
    go : (b : Bool) → (b || list_any is_desk ss) ≡ false → (list_any is_desk ss ≡ false → brokers_among hs ≡ []) → cond b (h ∷ brokers_among hs) (brokers_among hs) ≡ []
    go true e ih = absurd cc
    go false e ih = ih e
no_brokers limits [] (h ∷ hs) all none = absurd all
no_brokers limits (s ∷ ss) [] all none = absurd all

some_broker : (limits : Limits) (ss : List BookSums) (hs : List History) → AreLearned limits ss hs → list_any is_desk ss ≡ true → brokers_among hs ≡ [] → ⊥
some_broker limits [] [] all any none = absurd cc
some_broker limits (s ∷ ss) (h ∷ hs) all any none = go (is_broker h) (ap (λ (b : Bool). b || list_any is_desk ss) (sym (markets.desk_is limits s h all.0)) ∙ any) none (some_broker limits ss hs all.1)
  where
    go : (b : Bool) → (b || list_any is_desk ss) ≡ true → cond b (h ∷ brokers_among hs) (brokers_among hs) ≡ [] → (list_any is_desk ss ≡ true → brokers_among hs ≡ [] → ⊥) → ⊥
    go true e f ih = absurd cc
    go false e f ih = ih e f
some_broker limits [] (h ∷ hs) all any none = absurd all
some_broker limits (s ∷ ss) [] all any none = absurd all

-- ---- answers

record HasNamed (hs : List History) (n : ℕ) (name : List ℕ) : Type 0 where
  of : History
  there : slice_get hs n ≡ Some of
  named : name ≡ site_name of

named_is : (limits : Limits) (ss : List BookSums) (hs : List History) (n : ℕ) (s : BookSums) → AreLearned limits ss hs → slice_get ss n ≡ Some s → HasNamed hs n (name_of s)
named_is limits [] [] n s all e = absurd cc
named_is limits (x ∷ ss) (h ∷ hs) zero s all e =
    let same : x ≡ s = cc in
    record { of = h; there = refl; named = ap name_of (sym same) ∙ sym all.0.sums.name' }
named_is limits (x ∷ ss) (h ∷ hs) (suc n) s all e = let r = named_is limits ss hs n s all.1 e in record { of = r.of; there = r.there; named = r.named }
named_is limits [] (h ∷ hs) n s all e = absurd all
named_is limits (x ∷ ss) [] n s all e = absurd all

module _ (limits : Limits) (books : List BookSums) (hs : List History) (all : AreLearned limits books hs) where
  pub shared_names : own_all books ≡ false → TreeAudited limits hs (Err faults.BadBooks)
  shared_names e = λ bs vs tree some. true≢false (sym (are_own limits books hs all tree.names) ∙ e)

  pub no_desk : list_any is_desk books ≡ false → TreeAudited limits hs (Err faults.BadBooks)
  no_desk e = λ bs vs tree some. some (sym tree.brokers_are ∙ no_brokers limits books hs all e)

  -- the names of the vendors differ where all do
  pub vendors_own : own_all books ≡ true → own_names books ≡ true
  vendors_own e = markets.are_own limits books hs all (some_own (λ h. not (is_broker h)) hs (own_are limits books hs all e))

  module _ (own : own_all books ≡ true) (desk : list_any is_desk books ≡ true) where
    tree_is : AreOfTree (brokers_among hs) (vendors_among hs) hs
    tree_is = record { brokers_are = refl; vendors_are = refl; names = own_are limits books hs all own }

    pub missing : (names : NamePlacesView) (name : List ℕ) → ArePlacesOf (vendors_among hs) names → IsLeast (λ n. is_some (place_of names n)) (desk_sales books) name → TreeAudited limits hs (Err (faults.MissingBook name))
    missing names name places least = record {
      brokers = brokers_among hs;
      vendors = vendors_among hs;
      tree = tree_is;
      some = some_broker limits books hs all desk;
      least = least_is limits (λ n. is_some (place_of names n)) (vendors_among hs) places.known books hs name all least;
    }

    module _ (names : NamePlacesView) (places : ArePlacesOf (vendors_among hs) names) (there : HasAll (λ n. is_some (place_of names n)) (desk_sales books)) where
      pub known : AllByRecursion (KnowSales (vendors_among hs)) hs
      known = know_all limits (λ n. is_some (place_of names n)) (vendors_among hs) places.known books hs all there

      all_books : AreBooksOf limits (brokers_among hs) (vendors_among hs)
      all_books = record {
        brokers = broker_books limits books hs all;
        vendors = vendor_books limits books hs all;
        names = some_own (λ h. not (is_broker h)) hs (own_are limits books hs all own);
        sold_for = some_of (KnowSales (vendors_among hs)) is_broker hs known;
      }

      pub told : (totals : Totals) (t : Tree) → limits.series ≤ 2 ^ 32 → AreTotals hs totals → IsTreeOf totals t → TreeAudited limits hs (Ok t)
      told totals t le found is = record {
        brokers = brokers_among hs;
        vendors = vendors_among hs;
        all_books = all_books;
        tree = tree_is;
        some = some_broker limits books hs all desk;
        none = found.none;
        balanced = none_balanced limits (brokers_among hs) (vendors_among hs) hs le all_books tree_is found.none;
        broker_rows = subst (λ (l : List BrokerSums). AreByName (λ b. b.name) l t.brokers) found.brokers' is.brokers';
        vendor_rows = record { same = rows.same; order = rows.order };
        relayed' = is.relayed' ∙ found.relayed';
      }
        where
          rows : AreInOrder (map (sums_of_vendor (brokers_among hs)) (vendors_among hs)) t.vendors
          rows = subst (λ (l : List VendorSums). AreInOrder l t.vendors) found.vendors' is.vendors'

      pub fault : (f : BooksFault) → IsFound hs (Err f) → NamesAt books (Err f) → TreeAudited limits hs (Err f)
      fault (faults.Stranger book name id) found (s, at, named) =
          let r = named_is limits books hs book s all at in
          record {
            brokers = brokers_among hs;
            vendors = vendors_among hs;
            all_books = all_books;
            tree = tree_is;
            some = some_broker limits books hs all desk;
            first = found;
            of = r.of;
            there = r.there;
            named = named ∙ r.named;
          }
      fault faults.NoMemory found named = tt
      fault faults.BadBooks found named = absurd named
      fault (faults.MissingBook name) found named = absurd named

-- what was sold over all books is what the brokers sold
pub licences_same : (limits : Limits) (books : List BookSums) (hs : List History) → AreLearned limits books hs → sold_over hs ≡ sold_over (brokers_among hs)
licences_same limits books hs all = only_brokers hs (quiet books hs all)
  where
    quiet : (ss : List BookSums) (gs : List History) → AreLearned limits ss gs → AllByRecursion (λ h. is_broker h ≡ false → sales h ≡ []) gs
    quiet [] [] every = tt
    quiet (s ∷ ss) (g ∷ gs) every = (vendor_sold limits s g every.0, quiet ss gs every.1)
    quiet [] (g ∷ gs) every = absurd every
    quiet (s ∷ ss) [] every = absurd every

pub names_book : (books : List BookSums) (f : BooksFault) → NamesAt books (Err f) → NamesBook {R = Tree} books (Err f)
names_book books (faults.Stranger book name id) named = named
names_book books faults.NoMemory named = tt
names_book books faults.BadBooks named = tt
names_book books (faults.MissingBook name) named = tt
