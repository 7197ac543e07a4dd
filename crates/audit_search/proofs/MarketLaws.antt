-- Which books stand together, by what was kept of them and by their histories.
use Rattle.std.proofs.Common.{◌≡◌, ℕ, Bool, true, false, cond, not, eqb, ◌&&◌, ◌||◌, List, [], ◌∷◌, map, filter, bytes_eq, Option, Some, option_map, unwrap_or, refl, sym, ap, ap₂, ◌∙◌, subst, IsTrue}
use Rattle.std.specs.List.{list_any, AllByRecursion}
use Rattle.mc_requests.specs.declared.limits.Limits.{Limits}
use Rattle.ledger_model.specs.declared.numbers.TheConstants.{BROKER_KIND}
use Rattle.ledger_model.specs.Histories.{History}
use Rattle.ledger_model.specs.Houses.{site_name, is_broker}
use Rattle.ledger_model.specs.Stock.{Sale, sales}
use Rattle.ledger_model.proofs.AccountLaws as names
use Rattle.audit_model.specs.Books.{HaveOwnNames}
use Rattle.audit_model.specs.declared.sold.Sold.{Sold}
use Rattle.audit_sums.specs.declared.audit_sums.BookSums.{BookSums}
use Rattle.audit_model.specs.Sales.{sale_by}
use Rattle.audit_sums.specs.Learned.{SumsRepresent}
use Rattle.audit_search.specs.declared.shop.Shop.{Shop}
use Rattle.audit_search.specs.Checks.{is_desk}
use Rattle.audit_search.specs.Markets.{only, has_vendor, own_names, comes_before, IsLeast, HasAll}
use Rattle.audit_search.specs.Findings.{vendors_among, AreShopsOf}
use Rattle.audit_search.specs.Audit.{IsLearned, AreLearned, has_book, IsLeastMissing}
use Rattle.audit_search.proofs.ShopLaws.{shop_on}
use Rattle.audit_search.proofs.StrangeLaws.{AreShopsAt}

pub desk_is : (limits : Limits) (s : BookSums) (h : History) → IsLearned limits s h → is_desk s ≡ is_broker h
desk_is limits s h is = sym (ap (λ (o : Option ℕ). unwrap_or (option_map (λ kind. eqb kind BROKER_KIND) o) false) is.sums.kind')

-- the books that are no broker's
abbrev pub shops_among : List History → List History
shops_among hs = filter (λ h. not (is_broker h)) hs

module _ (limits : Limits) where
  kept : (test : BookSums → Bool) (passes : History → Bool) → ((s : BookSums) (h : History) → IsLearned limits s h → test s ≡ passes h)
      → (ss : List BookSums) (hs : List History) → AreLearned limits ss hs → AreLearned limits (filter test ss) (filter passes hs)
  kept test passes same [] [] all = tt
  kept test passes same (s ∷ ss) (h ∷ hs) all = go (test s) (passes h) (same s h all.0) (kept test passes same ss hs all.1)
    where
      go : (a b : Bool) → a ≡ b → AreLearned limits (filter test ss) (filter passes hs) → AreLearned limits (cond a (s ∷ filter test ss) (filter test ss)) (cond b (h ∷ filter passes hs) (filter passes hs))
      go true true e rest = (all.0, rest)
      go false false e rest = rest
      go true false e rest = absurd cc
      go false true e rest = absurd cc
  kept test passes same [] (h ∷ hs) all = absurd all
  kept test passes same (s ∷ ss) [] all = absurd all

  pub desks : (ss : List BookSums) (hs : List History) → AreLearned limits ss hs → AreLearned limits (filter is_desk ss) (filter is_broker hs)
  desks = kept is_desk is_broker (desk_is limits)

  pub vendors : (ss : List BookSums) (hs : List History) → AreLearned limits ss hs → AreLearned limits (vendors_among ss) (shops_among hs)
  vendors = kept (λ s. not (is_desk s)) (λ h. not (is_broker h)) (λ s h is. ap not (desk_is limits s h is))

  -- ---- the broker

  -- the one broker's book with what was kept of it
  pub record IsOne (ss : List BookSums) (hs : List History) : Type 0 where
    pub kept_of : BookSums
    pub history : History
    pub learned : IsLearned limits kept_of history
    pub ss_are : ss ≡ kept_of ∷ []
    pub hs_are : hs ≡ history ∷ []

  pub one_kept : (ss : List BookSums) (hs : List History) (s : BookSums) → AreLearned limits ss hs → only ss ≡ Some s → (ss ≡ s ∷ []) × IsOne ss hs
  one_kept [] [] s all e = absurd cc
  one_kept (x ∷ []) (h ∷ []) s all e = (ap (λ (y : BookSums). y ∷ []) (same_some x s e), record { kept_of = x; history = h; learned = all.0; ss_are = refl; hs_are = refl })
    where
      same_some : (a b : BookSums) → Some a ≡ Some b → a ≡ b
      same_some a b f = cc
  one_kept (x ∷ y ∷ ss) hs s all e = absurd cc
  one_kept (x ∷ []) (h ∷ g ∷ hs) s all e = absurd all.1
  one_kept (x ∷ []) [] s all e = absurd all
  one_kept [] (h ∷ hs) s all e = absurd all

  pub kept_one : (ss : List BookSums) (hs : List History) (h : History) → AreLearned limits ss hs → hs ≡ h ∷ [] → (s : BookSums) × (only ss ≡ Some s)
  kept_one [] [] h all e = absurd cc
  kept_one (s ∷ []) (x ∷ []) h all e = (s, refl)
  kept_one (s ∷ t ∷ ss) (x ∷ []) h all e = absurd all.1
  kept_one ss (x ∷ y ∷ hs) h all e = absurd cc
  kept_one [] (x ∷ hs) h all e = absurd all
  kept_one (s ∷ ss) [] h all e = absurd all

  -- ---- names

  pub has_is : (name : List ℕ) (ss : List BookSums) (hs : List History) → AreLearned limits ss hs → has_vendor ss name ≡ has_book (shops_among hs) name
  has_is name [] [] all = refl
  has_is name (s ∷ ss) (h ∷ hs) all =
      ap₂ (λ (d : Bool) (n : List ℕ). (not d && bytes_eq name n) || has_vendor ss name) (desk_is limits s h all.0) (sym all.0.sums.name')
      ∙ go (is_broker h) (has_is name ss hs all.1)
    where
      go : (d : Bool) → has_vendor ss name ≡ has_book (shops_among hs) name → ((not d && bytes_eq name (site_name h)) || has_vendor ss name) ≡ has_book (cond (not d) (h ∷ shops_among hs) (shops_among hs)) name
      go true ih = ih
      go false ih = ap (λ (b : Bool). bytes_eq name (site_name h) || b) ih
  has_is name [] (h ∷ hs) all = absurd all
  has_is name (s ∷ ss) [] all = absurd all

  turned_any : (name : List ℕ) (vs : List History) → list_any (λ w. bytes_eq (site_name w) name) vs ≡ has_book vs name
  turned_any name [] = refl
  turned_any name (v ∷ vs) = ap₂ (λ (a b : Bool). a || b) (names.turned (site_name v) name) (turned_any name vs)

  pub own_are : (ss : List BookSums) (hs : List History) → AreLearned limits ss hs → own_names ss ≡ true → HaveOwnNames (shops_among hs)
  own_are [] [] all own = tt
  own_are (s ∷ ss) (h ∷ hs) all own = go (is_broker h) (ap₂ (λ (d : Bool) (n : List ℕ). (d || not (has_vendor ss n)) && own_names ss) (sym (desk_is limits s h all.0)) all.0.sums.name' ∙ own) (own_are ss hs all.1)
    where
      neither : (a c : Bool) → (not a && c) ≡ true → (a ≡ false) × (c ≡ true)
      neither false true e = (refl, refl)
      neither false false e = absurd cc
      neither true c e = absurd cc

      go : (d : Bool) → ((d || not (has_vendor ss (site_name h))) && own_names ss) ≡ true → (own_names ss ≡ true → HaveOwnNames (shops_among hs)) → HaveOwnNames (cond (not d) (h ∷ shops_among hs) (shops_among hs))
      go true e ih = ih e
      go false e ih =
          let both = neither (has_vendor ss (site_name h)) (own_names ss) e in
          (turned_any (site_name h) (shops_among hs) ∙ sym (has_is (site_name h) ss hs all.1) ∙ both.0, ih both.1)
  own_are [] (h ∷ hs) all own = absurd all
  own_are (s ∷ ss) [] all own = absurd all

  pub are_own : (ss : List BookSums) (hs : List History) → AreLearned limits ss hs → HaveOwnNames (shops_among hs) → own_names ss ≡ true
  are_own [] [] all own = refl
  are_own (s ∷ ss) (h ∷ hs) all own = sym (ap₂ (λ (d : Bool) (n : List ℕ). (d || not (has_vendor ss n)) && own_names ss) (sym (desk_is limits s h all.0)) all.0.sums.name') ∙ go (is_broker h) own (are_own ss hs all.1)
    where
      go : (d : Bool) → HaveOwnNames (cond (not d) (h ∷ shops_among hs) (shops_among hs)) → (HaveOwnNames (shops_among hs) → own_names ss ≡ true) → ((d || not (has_vendor ss (site_name h))) && own_names ss) ≡ true
      go true e ih = ih e
      go false e ih =
          let none : has_vendor ss (site_name h) ≡ false = has_is (site_name h) ss hs all.1 ∙ sym (turned_any (site_name h) (shops_among hs)) ∙ e.0 in
          ap₂ (λ (a c : Bool). not a && c) none (ih e.1)
  are_own [] (h ∷ hs) all own = absurd all
  are_own (s ∷ ss) [] all own = absurd all

  -- ---- the vendors that a broker sold of

  pub sold_for : (ss : List BookSums) (hs : List History) → AreLearned limits ss hs → (rows : List Sold) → HasAll (has_vendor ss) rows
      → AllByRecursion (λ (s : Sale). IsTrue (has_book (shops_among hs) s.vendor)) (map sale_by rows)
  sold_for ss hs all [] every = tt
  sold_for ss hs all (r ∷ rows) every = (sym (has_is r.vendor ss hs all) ∙ every.0, sold_for ss hs all rows every.1)

  pub least_is : (ss : List BookSums) (hs : List History) (b : History) (rows : List Sold) (name : List ℕ) → AreLearned limits ss hs → map sale_by rows ≡ sales b → IsLeast (has_vendor ss) rows name
      → IsLeastMissing b (shops_among hs) name
  least_is ss hs b rows name all is least = record {
    sold = ap (list_any (λ (s : Sale). bytes_eq s.vendor name)) (sym is) ∙ any_sold rows ∙ least.sold;
    missing = sym (has_is name ss hs all) ∙ least.lacking;
    least = subst (AllByRecursion (λ (s : Sale). has_book (shops_among hs) s.vendor ≡ false → comes_before s.vendor name ≡ false)) is (each rows least.least);
  }
    where
      any_sold : (rs : List Sold) → list_any (λ (s : Sale). bytes_eq s.vendor name) (map sale_by rs) ≡ list_any (λ (s : Sold). bytes_eq s.vendor name) rs
      any_sold [] = refl
      any_sold (r ∷ rs) = ap (λ (b : Bool). bytes_eq r.vendor name || b) (any_sold rs)

      each : (rs : List Sold) → AllByRecursion (λ (s : Sold). has_vendor ss s.vendor ≡ false → comes_before s.vendor name ≡ false) rs
          → AllByRecursion (λ (s : Sale). has_book (shops_among hs) s.vendor ≡ false → comes_before s.vendor name ≡ false) (map sale_by rs)
      each [] every = tt
      each (r ∷ rs) every = ((λ none. every.0 (has_is r.vendor ss hs all ∙ none)), each rs every.1)

  -- ---- shops

  pub shops_at : (broker : BookSums) (b : History) → SumsRepresent broker b → (ss : List BookSums) (hs : List History) (shops : List Shop) → AreLearned limits ss hs → AreShopsOf broker ss shops → AreShopsAt b hs shops
  shops_at broker b is [] [] [] all of = tt
  shops_at broker b is (s ∷ ss) (h ∷ hs) (x ∷ xs) all of = (shop_on broker s b h x is all.0.sums of.0, shops_at broker b is ss hs xs all.1 of.1)
  shops_at broker b is [] [] (x ∷ xs) all of = absurd of
  shops_at broker b is (s ∷ ss) (h ∷ hs) [] all of = absurd of
  shops_at broker b is [] (h ∷ hs) xs all of = absurd all
  shops_at broker b is (s ∷ ss) [] xs all of = absurd all
