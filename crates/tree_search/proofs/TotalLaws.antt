-- What the loop over all books keeps, at one more book.
use Rattle.std.proofs.Common.{◌≡◌, ℕ, ◌+◌, ◌<◌, arith, Bool, true, false, cond, not, List, [], ◌∷◌, ◌++◌, map, length, take, drop, get_or, Option, Some, None, Err, refl, sym, ap, ap₂, ◌∙◌, subst, append-nil}
use Rattle.std.proofs.lemmas.Option.{slice_get-get_or}
use Rattle.std.proofs.lemmas.List.{map-append}
use Rattle.std.proofs.lemmas.List.Sums.{sum_by-append, sum_by-cons}
use Rattle.std.proofs.lemmas.List.Elements.{filter-append}
use Rattle.mc_requests.specs.declared.limits.Limits.{Limits}
use Rattle.name_places.specs.NamePlaces.{NamePlacesView}
use Rattle.ledger_model.specs.Histories.{History}
use Rattle.ledger_model.specs.Houses.{site_name, is_broker}
use Rattle.ledger_model.specs.Pieces.{own_out}
use Rattle.ledger_model.specs.Sums.{values, outstanding, lapsed}
use Rattle.audit_model.specs.declared.sums.VendorSums.{VendorSums}
use Rattle.audit_model.specs.Strangers.{first_of, first_by}
use Rattle.audit_model.specs.Brokers.{sold_by, again, relayed, handed_by}
use Rattle.audit_model.proofs.Left.{same_vendor}
use Rattle.audit_sums.specs.declared.audit_sums.BookSums.{BookSums}
use Rattle.audit_search.specs.declared.spent.Left.{Left}
use Rattle.audit_search.specs.declared.check.CheckFault.{CheckFault}
use Rattle.audit_search.specs.declared.check.CheckFault.TheVariants as faults
use Rattle.audit_search.specs.Checks.{is_desk, row_with, fault_at}
use Rattle.audit_search.specs.Audit.{IsLearned}
use Rattle.audit_search.proofs.MarketLaws.{desk_is}
use Rattle.audit_search.proofs.Audited.{accounts_are}
use Rattle.relayed_books.specs.Tree.{Sold, all_sold, sold_over, is_genuine, handed_at, strangers_from, first_over, first_stranger}
use Rattle.relay_core.specs.declared.tree.BrokerSums.{BrokerSums}
use Rattle.relay_core.specs.Sums.{sums_of_broker, sums_of_vendor}
use Rattle.tree_search.specs.declared.marks.Marks.{Marks}
use Rattle.tree_search.specs.declared.check.Checked.{Checked}
use Rattle.tree_search.specs.declared.totals.Totals.{Totals}
use Rattle.tree_search.specs.Marks.{MarksShow}
use Rattle.tree_search.specs.Rows.{broker_row}
use Rattle.tree_search.specs.Checks.{IsSound, IsChecked}
use Rattle.tree_search.proofs.DeskLaws.{sold_more}
use Rattle.tree_search.specs.Totals.{brokers_among, vendors_among, AreTotals, IsFound, NamesAt}

-- ---- rows

same_broker : (x y : BrokerSums) → x.name ≡ y.name → x.paid_in ≡ y.paid_in → x.paid_out ≡ y.paid_out → x.accounts ≡ y.accounts → x.fees ≡ y.fees → x.outstanding ≡ y.outstanding → x.lapsed ≡ y.lapsed → x ≡ y
same_broker x y a b c d e f g =
    ap (λ (n : List ℕ). record x { name = n }) a
    ∙ ap (λ (n : ℕ). record x { name = y.name; paid_in = n }) b
    ∙ ap (λ (n : ℕ). record x { name = y.name; paid_in = y.paid_in; paid_out = n }) c
    ∙ ap (λ (n : ℕ). record x { name = y.name; paid_in = y.paid_in; paid_out = y.paid_out; accounts = n }) d
    ∙ ap (λ (n : ℕ). record x { name = y.name; paid_in = y.paid_in; paid_out = y.paid_out; accounts = y.accounts; fees = n }) e
    ∙ ap (λ (n : ℕ). record x { name = y.name; paid_in = y.paid_in; paid_out = y.paid_out; accounts = y.accounts; fees = y.fees; outstanding = n }) f
    ∙ ap (λ (n : ℕ). record x { name = y.name; paid_in = y.paid_in; paid_out = y.paid_out; accounts = y.accounts; fees = y.fees; outstanding = y.outstanding; lapsed = n }) g

module _ (limits : Limits) (bs vs : List History) (s : BookSums) (h : History) (is : IsLearned limits s h) (left : Left) (out : left.outstanding ≡ outstanding (handed_at bs h) h) (gone : left.lapsed ≡ lapsed (handed_at bs h) h) where
  broker_is : is_broker h ≡ true → broker_row s left ≡ sums_of_broker h
  broker_is e =
      let m = is.sums.money in
      let handed : handed_at bs h ≡ own_out h = ap (λ (b : Bool). cond b (own_out h) (handed_by bs h)) e in
      same_broker (broker_row s left) (sums_of_broker h) (sym is.sums.name') (sym m.paid_in') (sym m.paid_out') (accounts_are limits s h is) (sym m.fees')
      (out ∙ ap (λ l. outstanding l h) handed) (gone ∙ ap (λ l. lapsed l h) handed)

  vendor_is : is_broker h ≡ false → row_with s left ≡ sums_of_vendor bs h
  vendor_is e =
      let handed : handed_at bs h ≡ handed_by bs h = ap (λ (b : Bool). cond b (own_out h) (handed_by bs h)) e in
      same_vendor (row_with s left) (sums_of_vendor bs h) (sym is.sums.name') (sym is.sums.money.takings') (out ∙ ap (λ l. outstanding l h) handed) (gone ∙ ap (λ l. lapsed l h) handed)

-- ---- the search

none_first : (n : ℕ) (ids : List ℕ) (later : Option (ℕ × ℕ)) → first_of ids ≡ None → first_by n ids later ≡ later
none_first n [] later e = refl
none_first n (id ∷ ids) later e = absurd cc

some_first : (n : ℕ) (ids : List ℕ) (later : Option (ℕ × ℕ)) (id : ℕ) → first_of ids ≡ Some id → first_by n ids later ≡ Some (n, id)
some_first n [] later id e = absurd cc
some_first n (x ∷ ids) later id e = let same : x ≡ id = cc in ap (λ (y : ℕ). Some (n, y)) same

-- ---- what is kept

-- of the books before this place
pub record Going (hs : List History) (names : NamePlacesView) (n : ℕ) (m : Marks) (t : Totals) : Type 0 where
  pub marks : MarksShow m names (sold_over (take n hs))
  pub first : first_over (is_genuine (brokers_among hs) (vendors_among hs)) (handed_at (brokers_among hs)) n (sold_over (take n hs)) (drop n hs) ≡ first_stranger (brokers_among hs) (vendors_among hs) hs
  pub brokers' : t.brokers.items ≡ map sums_of_broker (brokers_among (take n hs))
  pub vendors' : t.vendors.items ≡ map (sums_of_vendor (brokers_among hs)) (vendors_among (take n hs))
  pub relayed' : t.relayed ≡ relayed (brokers_among hs) (vendors_among (take n hs))

-- of none
pub first_going : (hs : List History) (names : NamePlacesView) (m : Marks) (t : Totals) → MarksShow m names [] → t.brokers.items ≡ [] → t.vendors.items ≡ [] → t.relayed ≡ 0 → Going hs names 0 m t
first_going hs names m t show brokers vendors relayed = record { marks = show; first = refl; brokers' = brokers; vendors' = vendors; relayed' = relayed }

module _ (limits : Limits) (hs : List History) (n : ℕ) (h : History) (next : drop n hs ≡ h ∷ drop (n + 1) hs) (more : take (n + 1) hs ≡ take n hs ++ h ∷ []) where
  abbrev bs : List History
  bs = brokers_among hs

  abbrev vs : List History
  vs = vendors_among hs

  abbrev before : List Sold
  before = sold_over (take n hs)

  sold_next : sold_over (take (n + 1) hs) ≡ before ++ all_sold h
  sold_next = sold_more hs n h more

  brokers_more : brokers_among (take (n + 1) hs) ≡ brokers_among (take n hs) ++ cond (is_broker h) (h ∷ []) []
  brokers_more = ap brokers_among more ∙ filter-append is_broker (take n hs) (h ∷ [])

  vendors_more : vendors_among (take (n + 1) hs) ≡ vendors_among (take n hs) ++ cond (not (is_broker h)) (h ∷ []) []
  vendors_more = ap vendors_among more ∙ filter-append (λ g. not (is_broker g)) (take n hs) (h ∷ [])

  first_is : first_over (is_genuine bs vs) (handed_at bs) n before (drop n hs)
      ≡ first_by n (strangers_from (is_genuine bs vs) (handed_at bs) before h h) (first_over (is_genuine bs vs) (handed_at bs) (n + 1) (before ++ all_sold h) (drop (n + 1) hs))
  first_is = ap (first_over (is_genuine bs vs) (handed_at bs) n before) next

  pub going_on : (names : NamePlacesView) (s : BookSums) (m m' : Marks) (t t' : Totals) (c : Checked) → IsLearned limits s h → Going hs names n m t → IsSound bs vs before h c → MarksShow m' names (before ++ all_sold h)
      → t'.brokers.items ≡ cond (is_desk s) (t.brokers.items ++ broker_row s c.left ∷ []) t.brokers.items
      → t'.vendors.items ≡ cond (is_desk s) t.vendors.items (t.vendors.items ++ row_with s c.left ∷ [])
      → t'.relayed ≡ t.relayed + c.again → Going hs names (n + 1) m' t'
  going_on names s m m' t t' c is going sound shows new_brokers new_vendors new_relayed = record {
    marks = subst (MarksShow m' names) (sym sold_next) shows;
    first = ap (λ (l : List Sold). first_over (is_genuine bs vs) (handed_at bs) (n + 1) l (drop (n + 1) hs)) sold_next
        ∙ sym (first_is ∙ none_first n (strangers_from (is_genuine bs vs) (handed_at bs) before h h) (first_over (is_genuine bs vs) (handed_at bs) (n + 1) (before ++ all_sold h) (drop (n + 1) hs)) sound.none)
        ∙ going.first;
    brokers' = new_brokers ∙ ap (λ (b : Bool). cond b (t.brokers.items ++ broker_row s c.left ∷ []) t.brokers.items) (desk_is limits s h is) ∙ of_broker (is_broker h) refl ∙ sym (ap (map sums_of_broker) brokers_more);
    vendors' = new_vendors ∙ ap (λ (b : Bool). cond b t.vendors.items (t.vendors.items ++ row_with s c.left ∷ [])) (desk_is limits s h is) ∙ of_vendor (is_broker h) refl ∙ sym (ap (map (sums_of_vendor bs)) vendors_more);
    relayed' = new_relayed ∙ ap₂ (λ (x y : ℕ). x + y) going.relayed' sound.again' ∙ of_again (is_broker h) ∙ sym (ap (relayed bs) vendors_more);
  }
    where
      of_broker : (b : Bool) → is_broker h ≡ b → cond b (t.brokers.items ++ broker_row s c.left ∷ []) t.brokers.items ≡ map sums_of_broker (brokers_among (take n hs) ++ cond b (h ∷ []) [])
      of_broker true e =
          ap₂ (λ (l : List BrokerSums) (x : BrokerSums). l ++ x ∷ []) going.brokers' (broker_is limits bs vs s h is c.left sound.outstanding' sound.lapsed' e)
          ∙ sym (map-append sums_of_broker (brokers_among (take n hs)) (h ∷ []))
      of_broker false e = going.brokers' ∙ sym (ap (map sums_of_broker) (append-nil (brokers_among (take n hs))))

      of_vendor : (b : Bool) → is_broker h ≡ b → cond b t.vendors.items (t.vendors.items ++ row_with s c.left ∷ []) ≡ map (sums_of_vendor bs) (vendors_among (take n hs) ++ cond (not b) (h ∷ []) [])
      of_vendor true e = going.vendors' ∙ sym (ap (map (sums_of_vendor bs)) (append-nil (vendors_among (take n hs))))
      of_vendor false e =
          ap₂ (λ (l : List VendorSums) (x : VendorSums). l ++ x ∷ []) going.vendors' (vendor_is limits bs vs s h is c.left sound.outstanding' sound.lapsed' e)
          ∙ sym (map-append (sums_of_vendor bs) (vendors_among (take n hs)) (h ∷ []))

      worth : History → ℕ
      worth v = values (again (sold_by bs (site_name v)))

      of_again : (b : Bool) → relayed bs (vendors_among (take n hs)) + cond b 0 (values (again (sold_by bs (site_name h)))) ≡ relayed bs (vendors_among (take n hs) ++ cond (not b) (h ∷ []) [])
      of_again true = omega (arith, ap (relayed bs) (append-nil (vendors_among (take n hs))))
      of_again false =
          omega (arith, sum_by-append (λ (v : History). values (again (sold_by bs (site_name v)))) (vendors_among (take n hs)) (h ∷ []), sum_by-cons (λ (v : History). values (again (sold_by bs (site_name v)))) h [])

  -- a stranger ends it
  pub ends : (names : NamePlacesView) (s : BookSums) (m : Marks) (t : Totals) (fault : CheckFault) → Going hs names n m t → IsChecked bs vs before h (Err fault) → IsFound hs (Err (fault_at n s fault))
  ends names s m t (faults.Stranger id) going found =
      sym going.first ∙ first_is
      ∙ some_first n (strangers_from (is_genuine bs vs) (handed_at bs) before h h) (first_over (is_genuine bs vs) (handed_at bs) (n + 1) (before ++ all_sold h) (drop (n + 1) hs)) id found
  ends names s m t faults.NoMemory going found = tt

-- with all books
pub all_gone : (hs : List History) (names : NamePlacesView) (n : ℕ) (m : Marks) (t : Totals) → take n hs ≡ hs → drop n hs ≡ [] → Going hs names n m t → AreTotals hs t
all_gone hs names n m t whole done going = record {
  none = sym going.first ∙ ap (first_over (is_genuine (brokers_among hs) (vendors_among hs)) (handed_at (brokers_among hs)) n (sold_over (take n hs))) done;
  brokers' = going.brokers' ∙ ap (λ (l : List History). map sums_of_broker (brokers_among l)) whole;
  vendors' = going.vendors' ∙ ap (λ (l : List History). map (sums_of_vendor (brokers_among hs)) (vendors_among l)) whole;
  relayed' = going.relayed' ∙ ap (λ (l : List History). relayed (brokers_among hs) (vendors_among l)) whole;
}

-- the name of the book at a place
pub named_at : (books : List BookSums) (i : ℕ) (s : BookSums) (fault : CheckFault) → i < length books → s ≡ get_or books i s → NamesAt books (Err (fault_at i s fault))
named_at books i s (faults.Stranger id) lt is = (s, slice_get-get_or books i s lt ∙ ap (λ (x : BookSums). Some x) (sym is), refl)
named_at books i s faults.NoMemory lt is = tt
