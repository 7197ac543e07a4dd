use Rattle.std.proofs.Common.{◌≡◌, List, ◌++◌, map, take, IsTrue}
use Rattle.std.specs.List.{AllByRecursion}
use Rattle.ledger_model.specs.Histories.{History}
use Rattle.ledger_model.specs.Houses.{site_name}
use Rattle.ledger_model.specs.Stock.{Sale}
use Rattle.audit_model.specs.Sales.{sale_by}
use Rattle.audit_search.specs.Audit.{has_book}
use Rattle.audit_search.specs.Standing.{StandFor}
use Rattle.relayed_books.specs.Tree.{Sold, sold_over, is_genuine}
use Rattle.tree_search.specs.Marks.{MarksShow, LicencesShow}
use Rattle.tree_search.specs.Desks.{ArePlacesOf, sold_rows}
use Rattle.tree_search.specs.Verdicts.{verdicts}
use Rattle.tree_search.proofs.judge.judge_all.Given as goal

abbrev pub invariant-loop-sale : goal.invariant-loop-sale
invariant-loop-sale l = record {
  told' : (bs vs : List History) (h : History) (earlier : List Sold) → site_name h ≡ l.broker → StandFor h vs l.shops → ArePlacesOf vs l.names
      → AllByRecursion (λ (s : Sale). IsTrue (has_book vs s.vendor)) (map sale_by l.sales) → LicencesShow l.licences l.names (sold_over bs) → MarksShow l.fn.marks l.names earlier
      → l.told.items ≡ verdicts (is_genuine bs vs) earlier h (map sale_by (take l.sale-index l.sales));
  shows' : (vs : List History) (h : History) (earlier : List Sold) → site_name h ≡ l.broker → StandFor h vs l.shops → ArePlacesOf vs l.names
      → AllByRecursion (λ (s : Sale). IsTrue (has_book vs s.vendor)) (map sale_by l.sales) → MarksShow l.fn.marks l.names earlier
      → MarksShow l.marks l.names (earlier ++ sold_rows h (take l.sale-index l.sales));
}
