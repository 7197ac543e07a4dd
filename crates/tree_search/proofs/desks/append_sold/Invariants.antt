use Rattle.std.proofs.Common.{◌≡◌, ◌++◌, drop}
use Rattle.tree_search.specs.Desks.{sold_at_desks}
use Rattle.tree_search.proofs.desks.append_sold.Given as goal

abbrev pub invariant-loop-desk : goal.invariant-loop-desk
invariant-loop-desk l = l.parts.items ++ sold_at_desks (drop l.desk-index l.desks) l.name ≡ l.fn.parts.items ++ sold_at_desks l.desks l.name
