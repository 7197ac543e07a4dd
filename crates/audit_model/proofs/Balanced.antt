-- Lawful books of which all was handed out are balanced.
use Rattle.std.proofs.Common.{◌≡◌, ℕ, ◌+◌, ◌^◌, ◌≤◌, Bool, true, false, cond, ◌||◌, List, [], ◌∷◌, refl, sym, ap, ◌∙◌, arith, bytes_eq, count_by, eqb, IsTrue}
use Rattle.std.specs.Prelude.{sum_by, filter}
use Rattle.std.specs.List.{list_any, AllByRecursion}
use Rattle.std.proofs.lemmas.List.Sums.{sum_by-cons}
use Rattle.std.proofs.lemmas.Slice.Eq.{bytes_eq-Decides}
use Rattle.mc_requests.specs.declared.limits.Limits.{Limits}
use Rattle.ledger_model.specs.declared.numbers.TheConstants.{VENDOR_KIND, BROKER_KIND}
use Rattle.ledger_model.specs.Histories.{History}
use Rattle.ledger_model.specs.Houses.{site_name}
use Rattle.ledger_model.specs.Pieces.{accepted, own_out, minted}
use Rattle.ledger_model.specs.Stock.{Sale, sales, is_of_vendor, sold, stock_sold, licensed_sold}
use Rattle.ledger_model.specs.Sums.{paid_in, sold_values, handed_out}
use Rattle.ledger_model.specs.Lawful.{IsLawful}
use Rattle.ledger_model.proofs.ListLaws.{counts_cons, counts_append}
use Rattle.ledger_model.proofs.AcceptLaws.{accepted_once}
use Rattle.ledger_model.proofs.SerialLaws.{gap_once, made_once}
use Rattle.ledger_model.proofs.StockLaws.{all_made, stock_sold_once, sold_parts}
use Rattle.ledger_model.proofs.LicenceLaws.{licensed_serials}
use Rattle.ledger_model.proofs.DrawnLaws.{not_both}
use Rattle.ledger_model.proofs.MoneyLaws.{broker_keeps}
use Rattle.audit_model.specs.Meets.{AreAmong}
use Rattle.audit_model.specs.Books.{IsBook, HaveOwnNames, AreBooks, IsHandedOut, vendor_sum, broker_sum, IsBalanced}
use Rattle.audit_model.proofs.Grouping.{grouped, kept_all}
use Rattle.audit_model.proofs.Meeting.{StandOnce, split, distinct_once}
use Rattle.audit_model.proofs.VendorBalance.{vendor_balances, sales_apart}
use Rattle.audit_model.proofs.SoldLaws.{sale_value, picked_values, licensed_high}

-- ---- the broker

-- the pieces that a house handed out in its own series stand once each
pub own_once : (limits : Limits) (h : History) → limits.series ≤ 2 ^ 32 → IsLawful limits h → StandOnce (own_out h)
own_once limits h le lawful id =
    let both = counts_append (λ p. eqb p.id id) (own_out h) (minted h) in
    omega (arith, both, made_once limits h id le lawful)

-- a broker's book: what was paid in is its own sum, and the values of its sales
pub broker_balances : (limits : Limits) (b : History) → limits.series ≤ 2 ^ 32 → IsBook limits BROKER_KIND b → AreAmong (own_out b) (accepted b) → paid_in b ≡ broker_sum b + sold_values b
broker_balances limits b le book among =
    let once = distinct_once (accepted b) (accepted_once limits b book.lawful) in
    let parts = split b (own_out b) (own_once limits b le book.lawful) once among in
    omega (arith, broker_keeps limits b book.lawful book.site, parts)

-- ---- one vendor

one_vendor : (limits : Limits) (b v : History) → limits.series ≤ 2 ^ 32 → IsBook limits BROKER_KIND b → IsBook limits VENDOR_KIND v → AreAmong (handed_out b v) (accepted v) → AreAmong (minted v) (stock_sold b (site_name v))
    → sum_by sale_value (filter (is_of_vendor (site_name v)) (sales b)) ≡ vendor_sum b v
one_vendor limits b v le broker vendor among stock =
    let name = site_name v in
    let no_gap = licensed_serials limits b name le broker.lawful in
    let apart = sales_apart limits v (sold b name) (licensed_sold b name) (stock_sold b name) le vendor (sold_parts b name)
    (λ id. gap_once (licensed_sold b name) id no_gap) (licensed_high limits BROKER_KIND b name broker) (λ id. stock_sold_once limits b name id broker.lawful) stock in
    sym (picked_values b (is_of_vendor name) (sales b) (all_made limits b broker.lawful)) ∙ vendor_balances limits v (sold b name) vendor apart among

all_vendors : (limits : Limits) (b : History) (vs : List History) → limits.series ≤ 2 ^ 32 → IsBook limits BROKER_KIND b → AllByRecursion (IsBook limits VENDOR_KIND) vs
    → AllByRecursion (λ v. AreAmong (handed_out b v) (accepted v)) vs → AllByRecursion (λ v. AreAmong (minted v) (stock_sold b (site_name v))) vs
    → sum_by (λ v. sum_by sale_value (filter (is_of_vendor (site_name v)) (sales b))) vs ≡ sum_by (vendor_sum b) vs
all_vendors limits b [] le broker vendors among stock = refl
all_vendors limits b (v ∷ vs) le broker vendors among stock =
    let one = one_vendor limits b v le broker vendors.0 among.0 stock.0 in
    let left = sum_by-cons (λ (w : History). sum_by sale_value (filter (is_of_vendor (site_name w)) (sales b))) v vs in
    let right = sum_by-cons (vendor_sum b) v vs in
    omega (arith, one, left, right, all_vendors limits b vs le broker vendors.1 among.1 stock.1)

-- ---- each sale belongs to one vendor

-- where a name is a site's, it is no other's
pub no_other : (name own : List ℕ) (vs : List History) → bytes_eq name own ≡ true → list_any (λ w. bytes_eq (site_name w) own) vs ≡ false → AllByRecursion (λ v. bytes_eq name (site_name v) ≡ false) vs
no_other name own [] same none = tt
no_other name own (v ∷ vs) same none = go (bytes_eq name (site_name v)) refl (bytes_eq (site_name v) own) refl none (no_other name own vs same)
  where
    go : (b : Bool) → bytes_eq name (site_name v) ≡ b → (c : Bool) → bytes_eq (site_name v) own ≡ c → (c || list_any (λ w. bytes_eq (site_name w) own) vs) ≡ false
        → (list_any (λ w. bytes_eq (site_name w) own) vs ≡ false → AllByRecursion (λ w. bytes_eq name (site_name w) ≡ false) vs)
        → (bytes_eq name (site_name v) ≡ false) × AllByRecursion (λ w. bytes_eq name (site_name w) ≡ false) vs
    go b b_is true c_is any ih = absurd cc
    go false b_is false c_is any ih = (b_is, ih any)
    go true b_is false c_is any ih =
        let yes : bytes_eq (site_name v) own ≡ true = (bytes_eq-Decides (site_name v) own).1 (sym ((bytes_eq-Decides name (site_name v)).0 b_is) ∙ (bytes_eq-Decides name own).0 same) in
        absurd (not_both (bytes_eq (site_name v) own) yes c_is)

none_counted : (test : History → Bool) (vs : List History) → AllByRecursion (λ v. test v ≡ false) vs → count_by test vs ≡ 0
none_counted test [] all = refl
none_counted test (v ∷ vs) all = go (test v) all.0 (counts_cons test v vs) (none_counted test vs all.1)
  where
    go : (b : Bool) → b ≡ false → count_by test (v ∷ vs) ≡ cond b 1 0 + count_by test vs → count_by test vs ≡ 0 → count_by test (v ∷ vs) ≡ 0
    go true none is rest = absurd cc
    go false none is rest = omega (arith, is, rest)

named_once : (name : List ℕ) (vs : List History) → HaveOwnNames vs → count_by (λ v. bytes_eq name (site_name v)) vs ≤ 1
named_once name [] own = omega arith
named_once name (v ∷ vs) own = go (bytes_eq name (site_name v)) refl (counts_cons (λ w. bytes_eq name (site_name w)) v vs) (named_once name vs own.1)
  where
    go : (b : Bool) → bytes_eq name (site_name v) ≡ b → count_by (λ w. bytes_eq name (site_name w)) (v ∷ vs) ≡ cond b 1 0 + count_by (λ w. bytes_eq name (site_name w)) vs
        → count_by (λ w. bytes_eq name (site_name w)) vs ≤ 1 → count_by (λ w. bytes_eq name (site_name w)) (v ∷ vs) ≤ 1
    go true same is ih = let none = none_counted (λ w. bytes_eq name (site_name w)) vs (no_other name (site_name v) vs same own.0) in omega (arith, is, none)
    go false other is ih = omega (arith, is, ih)

-- all sales are the sales of the vendors
pub joined : (ss : List Sale) (vs : List History) → HaveOwnNames vs → AllByRecursion (λ s. IsTrue (list_any (λ v. bytes_eq s.vendor (site_name v)) vs)) ss
    → sum_by (λ v. sum_by sale_value (filter (is_of_vendor (site_name v)) ss)) vs ≡ sum_by sale_value ss
joined ss vs own known =
    grouped sale_value (λ s v. bytes_eq s.vendor (site_name v)) vs (λ s. named_once s.vendor vs own) ss
    ∙ ap (sum_by sale_value) (kept_all (λ s. list_any (λ v. bytes_eq s.vendor (site_name v)) vs) ss known)

pub balanced : (limits : Limits) (b : History) (vs : List History) → limits.series ≤ 2 ^ 32 → AreBooks limits b vs → IsHandedOut b vs → IsBalanced b vs
balanced limits b vs le books handed =
    let broker = broker_balances limits b le books.broker handed.own in
    let join = joined (sales b) vs books.names books.sold_for in
    let vendors = all_vendors limits b vs le books.broker books.vendors handed.accepted_pieces handed.stock in
    omega (arith, broker, join, vendors)
