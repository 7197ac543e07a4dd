use Rattle.std.proofs.Common.{◌≡◌, List, ◌++◌, map, take, IsTrue}
use Rattle.std.specs.List.{AllByRecursion}
use Rattle.ledger_model.specs.Histories.{History}
use Rattle.ledger_model.specs.Houses.{site_name}
use Rattle.ledger_model.specs.Stock.{Sale}
use Rattle.audit_model.specs.Sales.{sale_by}
use Rattle.audit_search.specs.Audit.{has_book}
use Rattle.audit_search.specs.Standing.{StandFor}
use Rattle.relayed_books.specs.Tree.{Sold}
use Rattle.tree_search.specs.Marks.{LicencesShow}
use Rattle.tree_search.specs.Desks.{ArePlacesOf, sold_rows}
use Rattle.tree_search.proofs.licences.Licences.note_all.Given as goal

abbrev pub invariant-loop-sale : goal.invariant-loop-sale
invariant-loop-sale l = (vs : List History) (h : History) (before : List Sold) → site_name h ≡ l.broker → StandFor h vs l.shops → ArePlacesOf vs l.names
    → AllByRecursion (λ (s : Sale). IsTrue (has_book vs s.vendor)) (map sale_by l.sales) → LicencesShow l.fn.self l.names before
    → LicencesShow l.self l.names (before ++ sold_rows h (take l.sale-index l.sales))
