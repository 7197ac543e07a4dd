use Rattle.std.proofs.Common.{◌≡◌, drop}
use Rattle.std.specs.List.{list_any}
use Rattle.audit_search.specs.Checks.{is_desk}
use Rattle.tree_search.proofs.names.has_desk.Given as goal

abbrev pub invariant-loop-book : goal.invariant-loop-book
invariant-loop-book l = list_any is_desk (drop l.book-index l.books) ≡ list_any is_desk l.books
