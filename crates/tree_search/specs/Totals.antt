-- What is found of all books.
use Rattle.std.specs.Prelude.{◌≡◌, not, List, map, filter, Option, None, Some, slice_get, Result, Ok, Err}
use Rattle.std.specs.List.{AllByRecursion}
use Rattle.mc_requests.specs.declared.limits.Limits.{Limits}
use Rattle.name_places.specs.NamePlaces.{NamePlacesView}
use Rattle.ledger_model.specs.Histories.{History}
use Rattle.ledger_model.specs.Houses.{is_broker}
use Rattle.audit_model.specs.Brokers.{relayed}
use Rattle.audit_sums.specs.declared.audit_sums.BookSums.{BookSums}
use Rattle.audit_sums.specs.Learned.{name_of}
use Rattle.audit_search.specs.declared.shops.Shops.{Shops}
use Rattle.audit_search.specs.declared.fault.BooksFault.{BooksFault}
use Rattle.audit_search.specs.declared.fault.BooksFault.TheVariants as faults
use Rattle.audit_search.specs.Audit.{AreLearned}
use Rattle.relayed_books.specs.Tree.{sold_over, first_stranger}
use Rattle.relay_core.specs.Sums.{sums_of_broker, sums_of_vendor}
use Rattle.tree_search.specs.declared.licences.Licences.{Licences}
use Rattle.tree_search.specs.declared.totals.Totals.{Totals}
use Rattle.tree_search.specs.Marks.{LicencesShow}
use Rattle.tree_search.specs.Desks.{AreDesks, ArePlacesOf, KnowSales}

-- the brokers' books, and the others
abbrev pub brokers_among : List History → List History
brokers_among hs = filter is_broker hs

abbrev pub vendors_among : List History → List History
vendors_among hs = filter (λ h. not (is_broker h)) hs

-- what stands before books are checked
pub record Premises (limits : Limits) (books : List BookSums) (hs : List History) (names : NamePlacesView) (licences : Licences) (desks : List (Option Shops)) : Type 0 where
  pub learned : AreLearned limits books hs
  pub stand : AreDesks (vendors_among hs) hs desks
  pub places : ArePlacesOf (vendors_among hs) names
  pub known : AllByRecursion (KnowSales (vendors_among hs)) hs
  pub show : LicencesShow licences names (sold_over (brokers_among hs))

-- no stranger stands in them, and these are their sums
pub record AreTotals (hs : List History) (t : Totals) : Type 0 where
  pub none : first_stranger (brokers_among hs) (vendors_among hs) hs ≡ None
  pub brokers' : t.brokers.items ≡ map sums_of_broker (brokers_among hs)
  pub vendors' : t.vendors.items ≡ map (sums_of_vendor (brokers_among hs)) (vendors_among hs)
  pub relayed' : t.relayed ≡ relayed (brokers_among hs) (vendors_among hs)

abbrev pub IsFound : List History → Result Totals BooksFault → Type 0
IsFound hs (Ok t) = AreTotals hs t
IsFound hs (Err (faults.Stranger book name id)) = first_stranger (brokers_among hs) (vendors_among hs) hs ≡ Some (book, id)
IsFound hs (Err _) = Unit {0}

-- a stranger is told with the name that was learned of its book, and no other fault is but want of memory
abbrev pub NamesAt : List BookSums → Result Totals BooksFault → Type 0
NamesAt books (Err (faults.Stranger book name id)) = (s : BookSums) × (slice_get books book ≡ Some s) × (name ≡ name_of s)
NamesAt books (Err faults.NoMemory) = Unit {0}
NamesAt books (Err _) = ⊥
NamesAt books (Ok t) = Unit {0}
