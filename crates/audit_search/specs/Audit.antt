-- What an audit of books answers, by their histories.
use Rattle.std.specs.Prelude.{◌≡◌, ℕ, Bool, true, false, List, [], ◌∷◌, map, bytes_eq, None, Some, slice_get, Result, Ok, Err}
use Rattle.std.specs.List.{list_any, AllByRecursion}
use Rattle.mc_requests.specs.declared.limits.Limits.{Limits}
use Rattle.mc_records.specs.Entry.{Fits}
use Rattle.ledger_model.specs.Histories.{History}
use Rattle.ledger_model.specs.Houses.{site_name}
use Rattle.ledger_model.specs.Lawful.{IsLawful}
use Rattle.ledger_model.specs.Stock.{sales}
use Rattle.audit_model.specs.declared.sums.Report.{Report}
use Rattle.audit_model.specs.Books.{HaveOwnNames, AreBooks, IsBalanced}
use Rattle.audit_model.specs.Strangers.{AreOfMarket, first_stranger}
use Rattle.audit_model.specs.Sums.{vendor_sums, sums_of}
use Rattle.audit_sums.specs.declared.audit_sums.BookSums.{BookSums}
use Rattle.audit_sums.specs.Learned.{SumsRepresent, name_of}
use Rattle.audit_search.specs.declared.fault.BooksFault.{BooksFault}
use Rattle.audit_search.specs.declared.fault.BooksFault.TheVariants as faults
use Rattle.audit_search.specs.Markets.{comes_before, AreInOrder}

-- ---- what was learned

-- what was learned of a lawful book
pub record IsLearned (limits : Limits) (s : BookSums) (h : History) : Type 0 where
  pub sums : SumsRepresent s h
  pub lawful : IsLawful limits h
  pub fits : AllByRecursion Fits h

-- what was learned of some books, in their order
abbrev pub AreLearned : Limits → List BookSums → List History → Type 0
AreLearned limits [] [] = Unit {0}
AreLearned limits (s ∷ ss) (h ∷ hs) = IsLearned limits s h × AreLearned limits ss hs
AreLearned limits _ _ = ⊥

-- ---- what is answered

-- the books are those of one broker, and of vendors with names of their own
pub record AreMarket (b : History) (vs books : List History) : Type 0 where
  pub market : AreOfMarket b vs books
  pub own : HaveOwnNames vs

-- whether a vendor has a book
abbrev pub has_book : List History → List ℕ → Bool
has_book vs name = list_any (λ v. bytes_eq name (site_name v)) vs

-- the least name of a vendor that the broker sold of, and that has no book
pub record IsLeastMissing (b : History) (vs : List History) (name : List ℕ) : Type 0 where
  pub sold : list_any (λ s. bytes_eq s.vendor name) (sales b) ≡ true
  pub missing : has_book vs name ≡ false
  pub least : AllByRecursion (λ s. has_book vs s.vendor ≡ false → comes_before s.vendor name ≡ false) (sales b)

-- The books are reported: they balance, and no stranger stands in them. The sums are those of the ledger, with the
-- vendors' in the order of their names.
pub record IsReported (limits : Limits) (books : List History) (r : Report) : Type 0 where
  pub broker : History
  pub vendors : List History
  pub all_books : AreBooks limits broker vendors
  pub market : AreOfMarket broker vendors books
  pub none : first_stranger broker vendors books ≡ None
  pub balanced : IsBalanced broker vendors
  pub name : r.broker ≡ site_name broker
  pub sums : r.sums ≡ record (sums_of broker vendors) { vendors = r.sums.vendors }
  pub rows : AreInOrder (map (vendor_sums broker) vendors) r.sums.vendors

pub record IsMissing (books : List History) (name : List ℕ) : Type 0 where
  pub broker : History
  pub vendors : List History
  pub market : AreMarket broker vendors books
  pub least : IsLeastMissing broker vendors name

-- the first stranger, by book and then by entry, with the name of its book
pub record IsStranger (limits : Limits) (books : List History) (book : ℕ) (name : List ℕ) (id : ℕ) : Type 0 where
  pub broker : History
  pub vendors : List History
  pub all_books : AreBooks limits broker vendors
  pub market : AreOfMarket broker vendors books
  pub first : first_stranger broker vendors books ≡ Some (book, id)
  pub of : History
  pub there : slice_get books book ≡ Some of
  pub named : name ≡ site_name of

-- A stranger is told with the name that was learned of its book, be the books lawful or not.
abbrev pub NamesBook : {R : Type 0} → List BookSums → Result R BooksFault → Type 0
NamesBook books (Err (faults.Stranger book name id)) = (s : BookSums) × (slice_get books book ≡ Some s) × (name ≡ name_of s)
NamesBook books _ = Unit {0}

-- what is answered of lawful books
abbrev pub Audited : Limits → List History → Result Report BooksFault → Type 0
Audited limits books (Ok r) = IsReported limits books r
Audited limits books (Err faults.BadBooks) = (b : History) (vs : List History) → AreMarket b vs books → ⊥
Audited limits books (Err (faults.MissingBook name)) = IsMissing books name
Audited limits books (Err (faults.Stranger book name id)) = IsStranger limits books book name id
Audited limits books (Err faults.NoMemory) = Unit {0}
