use Rattle.std.proofs.Common.{take}
use Rattle.tree_search.specs.Desks.{AreDesksOf}
use Rattle.tree_search.proofs.desks.desks_of.Given as goal

abbrev pub invariant-loop-book : goal.invariant-loop-book
invariant-loop-book l = AreDesksOf l.books (take l.book-index l.books) l.desks.items
