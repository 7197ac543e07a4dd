-- What an audit finds by what was kept of the books, it answers of their histories.
use Rattle.std.proofs.Common.{◌≡◌, ℕ, zero, suc, ◌≤◌, ◌^◌, Bool, true, false, cond, not, List, [], ◌∷◌, map, filter, Some, Result, Ok, Err, refl, sym, ap, ◌∙◌, subst, slice_get, arith, IsTrue}
use Rattle.std.specs.List.{AllByRecursion}
use Rattle.scrip_form.specs.Scrip.{Scrip}
use Rattle.mc_requests.specs.declared.limits.Limits.{Limits}
use Rattle.ledger_model.specs.declared.numbers.TheConstants.{VENDOR_KIND}
use Rattle.ledger_model.specs.Histories.{History}
use Rattle.ledger_model.specs.Houses.{site_name, is_broker}
use Rattle.ledger_model.specs.Pieces.{own_out}
use Rattle.ledger_model.specs.Accounts.{all_balances}
use Rattle.ledger_model.specs.Stock.{Sale, sales}
use Rattle.ledger_model.specs.Sums.{handed_out, outstanding, lapsed}
use Rattle.ledger_model.proofs.MoneyLaws.{accounts_hold}
use Rattle.audit_model.specs.declared.sums.Sums.{Sums}
use Rattle.audit_model.specs.declared.sums.Report.{Report}
use Rattle.audit_model.specs.declared.sums.VendorSums.{VendorSums}
use Rattle.audit_model.specs.Books.{IsBook, HaveOwnNames, AreBooks}
use Rattle.audit_model.specs.Strangers.{handed_of, AreOfMarket, first_stranger}
use Rattle.audit_model.specs.Sums.{vendor_sums, sums_of}
use Rattle.audit_model.proofs.Strange.{no_stranger_balanced}
use Rattle.audit_sums.specs.declared.audit_sums.BookSums.{BookSums}
use Rattle.audit_sums.specs.Learned.{name_of, till_of, stock_rows_of, sales_of}
use Rattle.audit_search.specs.declared.shop.Shop.{Shop}
use Rattle.audit_search.specs.declared.totals.Totals.{Totals}
use Rattle.audit_search.specs.declared.spent.Left.{Left}
use Rattle.audit_search.specs.declared.fault.BooksFault.{BooksFault}
use Rattle.audit_search.specs.declared.fault.BooksFault.TheVariants as faults
use Rattle.audit_search.specs.Checks.{is_desk, left_in, row_of, first_over}
use Rattle.audit_search.specs.Markets.{has_vendor, HasAll, AreInOrder}
use Rattle.audit_search.specs.Filed.{HaveStocked, HaveSold}
use Rattle.audit_search.specs.Findings.{vendors_among, AreShopsOf, HasTotals, accounts_of, report_of, IsMarketOf, Finds}
use Rattle.audit_search.specs.Audit.{IsLearned, AreLearned, has_book, Audited}
use Rattle.audit_search.proofs.StrangeLaws.{AreShopsAt}
use Rattle.audit_search.proofs.MarketLaws.{shops_among, desks, vendors, one_kept, kept_one, own_are, are_own, sold_for, least_is, shops_at}
use Rattle.audit_search.proofs.AuditLaws.{only_one, each_has, broker_book, vendor_book, left_is, over_is, rows_are}

same_sums : (a b : Sums) → a.paid_in ≡ b.paid_in → a.paid_out ≡ b.paid_out → a.accounts ≡ b.accounts → a.fees ≡ b.fees → a.outstanding ≡ b.outstanding → a.lapsed ≡ b.lapsed → a.vendors ≡ b.vendors → a ≡ b
same_sums a b e f g h i j k =
    ap (λ (x : ℕ). record a { paid_in = x }) e
    ∙ ap (λ (x : ℕ). record a { paid_in = b.paid_in; paid_out = x }) f
    ∙ ap (λ (x : ℕ). record a { paid_in = b.paid_in; paid_out = b.paid_out; accounts = x }) g
    ∙ ap (λ (x : ℕ). record a { paid_in = b.paid_in; paid_out = b.paid_out; accounts = b.accounts; fees = x }) h
    ∙ ap (λ (x : ℕ). record a { paid_in = b.paid_in; paid_out = b.paid_out; accounts = b.accounts; fees = b.fees; outstanding = x }) i
    ∙ ap (λ (x : ℕ). record a { paid_in = b.paid_in; paid_out = b.paid_out; accounts = b.accounts; fees = b.fees; outstanding = b.outstanding; lapsed = x }) j
    ∙ ap (λ (x : List VendorSums). record a { paid_in = b.paid_in; paid_out = b.paid_out; accounts = b.accounts; fees = b.fees; outstanding = b.outstanding; lapsed = b.lapsed; vendors = x }) k

passes_all : {X : Type 0} (test : X → Bool) (xs : List X) → AllByRecursion (λ x. test x ≡ true) (filter test xs)
passes_all test [] = tt
passes_all test (x ∷ xs) = go (test x) refl (passes_all test xs)
  where
    go : (b : Bool) → test x ≡ b → AllByRecursion (λ y. test y ≡ true) (filter test xs) → AllByRecursion (λ y. test y ≡ true) (cond b (x ∷ filter test xs) (filter test xs))
    go true e rest = (e, rest)
    go false e rest = rest

kept_where : (P : History → Type 0) (hs : List History) → AllByRecursion (λ h. is_broker h ≡ false → P h) hs → AllByRecursion (λ h. (is_broker h ≡ false) × P h) (shops_among hs)
kept_where P [] all = tt
kept_where P (h ∷ hs) all = go (is_broker h) refl (kept_where P hs all.1)
  where
    go : (b : Bool) → is_broker h ≡ b → AllByRecursion (λ x. (is_broker x ≡ false) × P x) (shops_among hs) → AllByRecursion (λ x. (is_broker x ≡ false) × P x) (cond (not b) (h ∷ shops_among hs) (shops_among hs))
    go true e rest = rest
    go false e rest = ((e, all.0 e), rest)

pub accounts_are : (limits : Limits) (s : BookSums) (b : History) → IsLearned limits s b → accounts_of (till_of s) ≡ all_balances b
accounts_are limits s b is =
    let m = is.sums.money in
    omega (arith, accounts_hold limits b is.lawful, m.paid_in', m.paid_out', m.credited', m.drawn')

module _ (limits : Limits) (le : limits.series ≤ 2 ^ 32) (books : List BookSums) (hs : List History) (all : AreLearned limits books hs) where
  vs : List History
  vs = shops_among hs

  -- the broker's history, where there is one broker
  record Base (broker : BookSums) : Type 0 where
    b : History
    learned : IsLearned limits broker b
    ss_are : filter is_desk books ≡ broker ∷ []
    hs_are : filter is_broker hs ≡ b ∷ []
    desk : is_broker b ≡ true
    own : HaveOwnNames (shops_among hs)

  base : (broker : BookSums) → IsMarketOf broker books → Base broker
  base broker m =
      let one = one_kept limits (filter is_desk books) (filter is_broker hs) broker (desks limits books hs all) m.one in
      let same : one.1.kept_of ≡ broker = head_is one.1.kept_of broker (sym one.1.ss_are ∙ one.0) in
      record {
        b = one.1.history;
        learned = subst (λ (s : BookSums). IsLearned limits s one.1.history) same one.1.learned;
        ss_are = one.0;
        hs_are = one.1.hs_are;
        desk = (subst (AllByRecursion (λ (h : History). is_broker h ≡ true)) one.1.hs_are (passes_all is_broker hs)).0;
        own = own_are limits books hs all m.own;
      }
    where
      head_is : (x y : BookSums) → x ∷ [] ≡ y ∷ [] → x ≡ y
      head_is x y e = cc

  vendor_books : (ss : List BookSums) (gs : List History) → AreLearned limits ss gs → AllByRecursion (λ h. (is_broker h ≡ false) × Unit {0}) gs → AllByRecursion (IsBook limits VENDOR_KIND) gs
  vendor_books [] [] every none = tt
  vendor_books (s ∷ ss) (g ∷ gs) every none = (vendor_book limits s g every.0 none.0.0, vendor_books ss gs every.1 none.1)
  vendor_books [] (g ∷ gs) every none = absurd every
  vendor_books (s ∷ ss) [] every none = absurd every

  anything : (gs : List History) → AllByRecursion (λ h. is_broker h ≡ false → Unit {0}) gs
  anything [] = tt
  anything (g ∷ gs) = ((λ e. tt), anything gs)

  module _ (broker : BookSums) (o : Base broker) where
    market_is : AreOfMarket o.b (shops_among hs) hs
    market_is = record { one_broker = o.hs_are; vendors_are = refl }

    module _ (there : HasAll (has_vendor books) (sales_of broker)) where
      known : AllByRecursion (λ (s : Sale). IsTrue (has_book (shops_among hs) s.vendor)) (sales o.b)
      known = subst (AllByRecursion (λ (s : Sale). IsTrue (has_book (shops_among hs) s.vendor))) o.learned.sums.market'.sales' (sold_for limits books hs all (sales_of broker) there)

      all_books : AreBooks limits o.b (shops_among hs)
      all_books = record {
        broker = broker_book limits broker o.b o.learned o.desk;
        vendors = vendor_books (vendors_among books) (shops_among hs) (vendors limits books hs all) (kept_where (λ h. Unit {0}) hs (anything hs));
        names = o.own;
        sold_for = known;
      }

      module _ (shops : List Shop) (of : AreShopsOf broker (vendors_among books) shops) (stocked : HaveStocked shops (stock_rows_of broker)) (sold : HaveSold shops (sales_of broker)) where
        at : AreShopsAt o.b (shops_among hs) shops
        at = shops_at limits broker o.b o.learned.sums (vendors_among books) (shops_among hs) shops (vendors limits books hs all) of

        first_is : first_over 0 shops books ≡ first_stranger o.b (shops_among hs) hs
        first_is = over_is limits broker o.b (shops_among hs) shops o.learned.sums at stocked sold o.own known 0 books hs all (each_has hs) (only_one is_broker hs o.b o.hs_are)

        rows_is : map (row_of shops) (vendors_among books) ≡ map (vendor_sums o.b) (shops_among hs)
        rows_is = rows_are limits broker o.b (shops_among hs) shops o.learned.sums at stocked sold o.own known (vendors_among books) (shops_among hs) (vendors limits books hs all)
            (kept_where (λ h. has_book (shops_among hs) (site_name h) ≡ true) hs (each_has hs))

        desk_left : ((left_in shops broker).outstanding ≡ outstanding (own_out o.b) o.b) × ((left_in shops broker).lapsed ≡ lapsed (own_out o.b) o.b)
        desk_left =
            let left = left_is limits broker o.b (shops_among hs) shops o.learned.sums at stocked sold o.own known broker o.b o.learned (λ e. absurd (both (is_broker o.b) o.desk e)) in
            let handed : handed_of o.b o.b ≡ own_out o.b = ap (λ (d : Bool). cond d (own_out o.b) (handed_out o.b o.b)) o.desk in
            (left.0 ∙ ap (λ (l : List Scrip). outstanding l o.b) handed, left.1 ∙ ap (λ (l : List Scrip). lapsed l o.b) handed)
          where
            both : (x : Bool) → x ≡ true → x ≡ false → ⊥
            both true e f = absurd cc
            both false e f = absurd cc

        sums_is : (t : Totals) (rows : List VendorSums) → HasTotals shops books t
            → (report_of broker t rows).sums ≡ record (sums_of o.b (shops_among hs)) { vendors = rows }
        sums_is t rows has =
            let m = o.learned.sums.money in
            let desk = has.desk broker o.ss_are in
            same_sums (report_of broker t rows).sums (record (sums_of o.b (shops_among hs)) { vendors = rows }) (sym m.paid_in') (sym m.paid_out') (accounts_are limits broker o.b o.learned) (sym m.fees')
            (ap (λ (l : Left). l.outstanding) desk ∙ desk_left.0) (ap (λ (l : Left). l.lapsed) desk ∙ desk_left.1) refl

  -- the history of the book at a place, with its name
  record HasNamed (gs : List History) (n : ℕ) (name : List ℕ) : Type 0 where
    of : History
    there : slice_get gs n ≡ Some of
    named : name ≡ site_name of

  named_is : (ss : List BookSums) (gs : List History) (n : ℕ) (s : BookSums) → AreLearned limits ss gs → slice_get ss n ≡ Some s → HasNamed gs n (name_of s)
  named_is [] [] n s every e = absurd cc
  named_is (x ∷ ss) (g ∷ gs) zero s every e =
      let same : x ≡ s = cc in
      record { of = g; there = refl; named = ap name_of (sym same) ∙ sym every.0.sums.name' }
  named_is (x ∷ ss) (g ∷ gs) (suc n) s every e = let h = named_is ss gs n s every.1 e in record { of = h.of; there = h.there; named = h.named }
  named_is [] (g ∷ gs) n s every e = absurd every
  named_is (x ∷ ss) [] n s every e = absurd every

  pub audited : (r : Result Report BooksFault) → Finds books r → Audited limits hs r
  audited (Ok r) (broker, f) =
      let o = base broker f.market in
      let none = sym (first_is broker o f.all_there f.shops f.of_shops f.stocked f.sold) ∙ f.has.none in
      let lawful = all_books broker o f.all_there in
      record {
        broker = o.b;
        vendors = shops_among hs;
        all_books = lawful;
        market = market_is broker o;
        none = none;
        balanced = no_stranger_balanced limits o.b (shops_among hs) hs le lawful (market_is broker o) none;
        name = ap (λ (x : Report). x.broker) f.report.is ∙ sym o.learned.sums.name';
        sums = ap (λ (x : Report). x.sums) f.report.is ∙ sums_is broker o f.all_there f.shops f.of_shops f.stocked f.sold f.totals r.sums.vendors f.has;
        rows = subst (λ (l : List VendorSums). AreInOrder l r.sums.vendors) (f.has.rows ∙ rows_is broker o f.all_there f.shops f.of_shops f.stocked f.sold) f.report.rows;
      }
  audited (Err faults.BadBooks) none = λ b ws market.
      let one = kept_one limits (filter is_desk books) (filter is_broker hs) b (desks limits books hs all) market.market.one_broker in
      none one.0 (record { one = one.1; own = are_own limits books hs all (subst HaveOwnNames (sym market.market.vendors_are) market.own) })
  audited (Err (faults.MissingBook name)) (broker, f) =
      let o = base broker f.market in
      record {
        broker = o.b;
        vendors = shops_among hs;
        market = record { market = market_is broker o; own = o.own };
        least = least_is limits books hs o.b (sales_of broker) name all o.learned.sums.market'.sales' f.least;
      }
  audited (Err (faults.Stranger book name id)) (broker, f) =
      let o = base broker f.market in
      record {
        broker = o.b;
        vendors = shops_among hs;
        all_books = all_books broker o f.all_there;
        market = market_is broker o;
        first = sym (first_is broker o f.all_there f.shops f.of_shops f.stocked f.sold) ∙ f.stranger.first;
        of = (named_is books hs book f.stranger.of all f.stranger.there).of;
        there = (named_is books hs book f.stranger.of all f.stranger.there).there;
        named = f.stranger.named ∙ (named_is books hs book f.stranger.of all f.stranger.there).named;
      }
  audited (Err faults.NoMemory) f = tt
