use Rattle.std.proofs.Common.{◌≡◌, ◌++◌, drop, filter, option_map, option_to_list}
use Rattle.audit_search.specs.Checks.{is_desk}
use Rattle.audit_search.proofs.market.only_broker.Given as goal

abbrev pub invariant-loop-book : goal.invariant-loop-book
invariant-loop-book l = option_to_list (option_map (λ s. s.now) l.found) ++ filter is_desk (drop l.book-index l.books) ≡ filter is_desk l.books
