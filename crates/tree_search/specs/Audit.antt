-- What an audit of the books of brokers and of vendors answers, by their histories.
use Rattle.std.specs.Prelude.{◌≡◌, ℕ, true, false, List, [], flat_map, bytes_eq, Some, slice_get, Result, Ok, Err}
use Rattle.std.specs.List.{list_any, AllByRecursion}
use Rattle.mc_requests.specs.declared.limits.Limits.{Limits}
use Rattle.ledger_model.specs.Histories.{History}
use Rattle.ledger_model.specs.Houses.{site_name}
use Rattle.ledger_model.specs.Stock.{sales}
use Rattle.audit_model.specs.Brokers.{AreBooksOf}
use Rattle.audit_search.specs.declared.fault.BooksFault.{BooksFault}
use Rattle.audit_search.specs.declared.fault.BooksFault.TheVariants as faults
use Rattle.audit_search.specs.Markets.{comes_before, AreInOrder}
use Rattle.audit_search.specs.Audit.{has_book}
use Rattle.relayed_books.specs.Tree.{AreOfTree, first_stranger}
use Rattle.relay_core.specs.declared.tree.Tree.{Tree}
use Rattle.relay_core.specs.Sums.{IsTold, AreByName}
use Rattle.tree_search.specs.declared.totals.Totals.{Totals}

-- the least name of a vendor that some broker sold of, and that has no book
pub record IsLeastMissing (bs vs : List History) (name : List ℕ) : Type 0 where
  pub sold : list_any (λ s. bytes_eq s.vendor name) (flat_map sales bs) ≡ true
  pub missing : has_book vs name ≡ false
  pub least : AllByRecursion (λ s. has_book vs s.vendor ≡ false → comes_before s.vendor name ≡ false) (flat_map sales bs)

-- the books are those of one or more brokers and of vendors, each with a name of its own, and one is missing
pub record IsMissing (books : List History) (name : List ℕ) : Type 0 where
  pub brokers : List History
  pub vendors : List History
  pub tree : AreOfTree brokers vendors books
  pub some : brokers ≡ [] → ⊥
  pub least : IsLeastMissing brokers vendors name

-- the first stranger, by book and then by entry, with the name of its book
pub record IsStranger (limits : Limits) (books : List History) (book : ℕ) (name : List ℕ) (id : ℕ) : Type 0 where
  pub brokers : List History
  pub vendors : List History
  pub all_books : AreBooksOf limits brokers vendors
  pub tree : AreOfTree brokers vendors books
  pub some : brokers ≡ [] → ⊥
  pub first : first_stranger brokers vendors books ≡ Some (book, id)
  pub of : History
  pub there : slice_get books book ≡ Some of
  pub named : name ≡ site_name of

-- What is answered of lawful books: their sums, or that there is no broker or two share a name, or the least name of a vendor that
-- lacks a book, or the first stranger.
abbrev pub TreeAudited : Limits → List History → Result Tree BooksFault → Type 0
TreeAudited limits books (Ok t) = IsTold limits books t
TreeAudited limits books (Err faults.BadBooks) = (bs vs : List History) → AreOfTree bs vs books → (bs ≡ [] → ⊥) → ⊥
TreeAudited limits books (Err (faults.MissingBook name)) = IsMissing books name
TreeAudited limits books (Err (faults.Stranger book name id)) = IsStranger limits books book name id
TreeAudited limits books (Err faults.NoMemory) = Unit {0}

-- a tree has these sums, with brokers and vendors in the order of their names
pub record IsTreeOf (totals : Totals) (t : Tree) : Type 0 where
  pub brokers' : AreByName (λ b. b.name) totals.brokers.items t.brokers
  pub vendors' : AreInOrder totals.vendors.items t.vendors
  pub relayed' : t.relayed ≡ totals.relayed
