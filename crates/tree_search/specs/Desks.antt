-- The books of brokers with what they have of vendors to sell, and the places of the vendors.
use Rattle.std.specs.Prelude.{◌≡◌, ℕ, true, false, not, IsTrue, if◌then◌else◌, List, [], map, filter, filter_map, flat_map, Option, Some, None, is_some}
use Rattle.std.specs.List.{AllZip, AllByRecursion}
use Rattle.mc_requests.specs.declared.limits.Limits.{Limits}
use Rattle.name_places.specs.NamePlaces.{NamePlacesView, place_of}
use Rattle.ledger_model.specs.Histories.{History}
use Rattle.ledger_model.specs.Houses.{is_broker}
use Rattle.ledger_model.specs.Stock.{sales}
use Rattle.audit_model.specs.declared.part.Part.{Part}
use Rattle.audit_model.specs.declared.sold.Sold.{Sold as Row}
use Rattle.audit_sums.specs.declared.audit_sums.BookSums.{BookSums}
use Rattle.audit_model.specs.Sales.{sale_by}
use Rattle.audit_search.specs.declared.shops.Shops.{Shops}
use Rattle.audit_search.specs.Checks.{is_desk}
use Rattle.audit_search.specs.Audit.{IsLearned, AreLearned, has_book}
use Rattle.audit_search.specs.Standing.{StandFor, sold_of, piece_in}
use Rattle.relayed_books.specs.Tree.{Sold, sold_as}
use Rattle.tree_search.specs.Marks.{AreApart}

-- ---- shops

-- the shops of a broker's book among some books; a vendor's has none
abbrev pub IsDeskOf : List BookSums → BookSums → Option Shops → Type 0
IsDeskOf books s None = is_desk s ≡ false
IsDeskOf books s (Some shops) =
    (is_desk s ≡ true) × ((limits : Limits) (b : History) (hs : List History) → IsLearned limits s b → AreLearned limits books hs → StandFor b (filter (λ h. not (is_broker h)) hs) shops)

abbrev pub AreDesksOf : List BookSums → List BookSums → List (Option Shops) → Type 0
AreDesksOf books ss desks = AllZip (IsDeskOf books) ss desks

-- the same by the histories
abbrev pub StandsAt : List History → History → Option Shops → Type 0
StandsAt vs h None = is_broker h ≡ false
StandsAt vs h (Some shops) = (is_broker h ≡ true) × StandFor h vs shops

abbrev pub AreDesks : List History → List History → List (Option Shops) → Type 0
AreDesks vs hs desks = AllZip (StandsAt vs) hs desks

-- a vendor's pieces that were sold at some brokers, by broker and then in order
abbrev pub sold_in : List ℕ → Option Shops → List Part
sold_in name None = []
sold_in name (Some shops) = sold_of shops name

abbrev pub sold_at_desks : List (Option Shops) → List ℕ → List Part
sold_at_desks desks name = flat_map (sold_in name) desks

-- ---- places

-- each vendor that has a book has a place, and no two have one place
pub record ArePlacesOf (vs : List History) (places : NamePlacesView) : Type 0 where
  pub known : (name : List ℕ) → is_some (place_of places name) ≡ has_book vs name
  pub apart : AreApart places

-- ---- sales

-- each vendor that a book sold of has a book
abbrev pub KnowSales : List History → History → Type 0
KnowSales vs h = AllByRecursion (λ s. IsTrue (has_book vs s.vendor)) (sales h)

-- the piece of a sale under a licence
abbrev pub licensed_piece : Shops → Row → Option Part
licensed_piece shops s = if s.stock then None else piece_in shops s

-- what some sales of a book sold
abbrev pub sold_rows : History → List Row → List Sold
sold_rows h rows = filter_map (sold_as h) (map sale_by rows)
