use Rattle.std.proofs.Common.{take}
use Rattle.std.specs.Prelude.{is_some, MatchOption}
use Rattle.name_places.specs.NamePlaces.{place_of}
use Rattle.audit_search.specs.Markets.{IsLeast, HasAll}
use Rattle.tree_search.specs.Names.{desk_sales}
use Rattle.tree_search.proofs.names.lacking.Given as goal

abbrev pub invariant-loop-book : goal.invariant-loop-book
invariant-loop-book l = MatchOption l.least (HasAll (λ name. is_some (place_of l.names name)) (desk_sales (take l.book-index l.books))) (IsLeast (λ name. is_some (place_of l.names name)) (desk_sales (take l.book-index l.books)))
