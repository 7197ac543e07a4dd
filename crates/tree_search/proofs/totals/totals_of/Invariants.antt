use Rattle.std.proofs.Common.{List}
use Rattle.mc_requests.specs.declared.limits.Limits.{Limits}
use Rattle.ledger_model.specs.Histories.{History}
use Rattle.tree_search.specs.Totals.{Premises}
use Rattle.tree_search.proofs.TotalLaws.{Going}
use Rattle.tree_search.proofs.totals.totals_of.Given as goal

abbrev pub invariant-loop-n : goal.invariant-loop-n
invariant-loop-n l = (limits : Limits) (hs : List History) → Premises limits l.books hs l.names l.licences l.desks → Going hs l.names l.n l.marks l.totals
