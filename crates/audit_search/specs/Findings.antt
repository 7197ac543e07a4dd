-- What an audit finds, by what was kept of the books.
use Rattle.std.specs.Prelude.{◌≡◌, ℕ, ◌+◌, ◌-◌, true, not, List, [], ◌∷◌, map, filter, Some, None, slice_get, Result, Ok, Err}
use Rattle.audit_model.specs.declared.sums.Report.{Report}
use Rattle.audit_model.specs.declared.sums.VendorSums.{VendorSums}
use Rattle.audit_sums.specs.declared.till.Till.{Till}
use Rattle.audit_sums.specs.declared.audit_sums.BookSums.{BookSums}
use Rattle.audit_sums.specs.Learned.{name_of, till_of, stock_rows_of, sales_of}
use Rattle.audit_search.specs.declared.shop.Shop.{Shop}
use Rattle.audit_search.specs.declared.totals.Totals.{Totals}
use Rattle.audit_search.specs.declared.fault.BooksFault.{BooksFault}
use Rattle.audit_search.specs.declared.fault.BooksFault.TheVariants as faults
use Rattle.audit_search.specs.Shops.{IsShopOf}
use Rattle.audit_search.specs.Filed.{HaveStocked, HaveSold}
use Rattle.audit_search.specs.Checks.{is_desk, left_in, row_of, first_over}
use Rattle.audit_search.specs.Markets.{only, has_vendor, own_names, IsLeast, HasAll, AreInOrder}

-- the vendors' books
abbrev pub vendors_among : List BookSums → List BookSums
vendors_among books = filter (λ s. not (is_desk s)) books

-- the shops of some vendors at a broker, in their order
abbrev pub AreShopsOf : BookSums → List BookSums → List Shop → Type 0
AreShopsOf b [] [] = Unit {0}
AreShopsOf b (v ∷ vs) (s ∷ ss) = IsShopOf b v s × AreShopsOf b vs ss
AreShopsOf b _ _ = ⊥

-- ---- all books

-- the sums of all books, none of which has a stranger
pub record HasTotals (shops : List Shop) (books : List BookSums) (t : Totals) : Type 0 where
  pub none : first_over 0 shops books ≡ None
  pub rows : t.vendors.items ≡ map (row_of shops) (vendors_among books)
  pub desk : (b : BookSums) → filter is_desk books ≡ b ∷ [] → t.desk ≡ left_in shops b

-- the first stranger, with the name of its book
pub record IsFirstStranger (shops : List Shop) (books : List BookSums) (book : ℕ) (name : List ℕ) (id : ℕ) : Type 0 where
  pub first : first_over 0 shops books ≡ Some (book, id)
  pub of : BookSums
  pub there : slice_get books book ≡ Some of
  pub named : name ≡ name_of of

abbrev pub FindsTotals : List Shop → List BookSums → Result Totals BooksFault → Type 0
FindsTotals shops books (Ok t) = HasTotals shops books t
FindsTotals shops books (Err (faults.Stranger book name id)) = IsFirstStranger shops books book name id
FindsTotals shops books (Err faults.NoMemory) = Unit {0}
FindsTotals shops books (Err _) = ⊥

-- ---- the report

-- what stands in accounts: what came into them, less what went out
abbrev pub accounts_of : Till → ℕ
accounts_of t = (t.paid_in + t.credited) - (t.paid_out + t.drawn)

-- the books of one broker and of vendors with names of their own, among them those of all that the broker sold of
pub record IsMarketOf (broker : BookSums) (books : List BookSums) : Type 0 where
  pub one : only (filter is_desk books) ≡ Some broker
  pub own : own_names books ≡ true

-- the report of these sums of all books, with those of the vendors in this order
abbrev pub report_of : BookSums → Totals → List VendorSums → Report
report_of broker t rows = record {
  broker = name_of broker;
  sums = record {
    paid_in = (till_of broker).paid_in;
    paid_out = (till_of broker).paid_out;
    accounts = accounts_of (till_of broker);
    fees = (till_of broker).fees;
    outstanding = t.desk.outstanding;
    lapsed = t.desk.lapsed;
    vendors = rows;
  };
}

-- it has the vendors in the order of their names
pub record IsReportOf (broker : BookSums) (t : Totals) (r : Report) : Type 0 where
  pub is : r ≡ report_of broker t r.sums.vendors
  pub rows : AreInOrder t.vendors.items r.sums.vendors

-- what is found beside a broker's book
pub record FindsReport (broker : BookSums) (books : List BookSums) (r : Report) : Type 0 where
  pub market : IsMarketOf broker books
  pub all_there : HasAll (has_vendor books) (sales_of broker)
  pub shops : List Shop
  pub of_shops : AreShopsOf broker (vendors_among books) shops
  pub stocked : HaveStocked shops (stock_rows_of broker)
  pub sold : HaveSold shops (sales_of broker)
  pub totals : Totals
  pub has : HasTotals shops books totals
  pub report : IsReportOf broker totals r

pub record FindsMissing (broker : BookSums) (books : List BookSums) (name : List ℕ) : Type 0 where
  pub market : IsMarketOf broker books
  pub least : IsLeast (has_vendor books) (sales_of broker) name

pub record FindsStranger (broker : BookSums) (books : List BookSums) (book : ℕ) (name : List ℕ) (id : ℕ) : Type 0 where
  pub market : IsMarketOf broker books
  pub all_there : HasAll (has_vendor books) (sales_of broker)
  pub shops : List Shop
  pub of_shops : AreShopsOf broker (vendors_among books) shops
  pub stocked : HaveStocked shops (stock_rows_of broker)
  pub sold : HaveSold shops (sales_of broker)
  pub stranger : IsFirstStranger shops books book name id

-- what an audit of the books finds
abbrev pub Finds : List BookSums → Result Report BooksFault → Type 0
Finds books (Ok r) = (broker : BookSums) × FindsReport broker books r
Finds books (Err faults.BadBooks) = (broker : BookSums) → IsMarketOf broker books → ⊥
Finds books (Err (faults.MissingBook name)) = (broker : BookSums) × FindsMissing broker books name
Finds books (Err (faults.Stranger book name id)) = (broker : BookSums) × FindsStranger broker books book name id
Finds books (Err faults.NoMemory) = Unit {0}
