use Rattle.std.proofs.Common.{List, take}
use Rattle.std.specs.List.{AllByRecursion}
use Rattle.mc_requests.specs.declared.limits.Limits.{Limits}
use Rattle.ledger_model.specs.Histories.{History}
use Rattle.audit_search.specs.Audit.{AreLearned}
use Rattle.relayed_books.specs.Tree.{sold_over}
use Rattle.tree_search.specs.Marks.{LicencesShow}
use Rattle.tree_search.specs.Desks.{AreDesks, ArePlacesOf, KnowSales}
use Rattle.tree_search.proofs.licences.licences_of.Given as goal

abbrev pub invariant-loop-n : goal.invariant-loop-n
invariant-loop-n l = (limits : Limits) (hs vs : List History) → AreLearned limits l.books hs → AreDesks vs hs l.desks → ArePlacesOf vs l.names → AllByRecursion (KnowSales vs) hs
    → LicencesShow l.licences l.names (sold_over (take l.n hs))
