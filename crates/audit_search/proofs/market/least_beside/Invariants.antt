use Rattle.std.proofs.Common.{List, ◌++◌, take}
use Rattle.std.specs.Prelude.{is_some, MatchOption}
use Rattle.name_places.specs.NamePlaces.{place_of}
use Rattle.audit_model.specs.declared.sold.Sold.{Sold}
use Rattle.audit_search.specs.Markets.{IsLeast, HasAll}
use Rattle.audit_search.proofs.market.least_beside.Given as goal

abbrev pub invariant-loop-sale : goal.invariant-loop-sale
invariant-loop-sale l = (rows : List Sold) → MatchOption l.fn.earlier (HasAll (λ name. is_some (place_of l.names name)) rows) (IsLeast (λ name. is_some (place_of l.names name)) rows)
    → MatchOption l.least (HasAll (λ name. is_some (place_of l.names name)) (rows ++ take l.sale-index l.sales)) (IsLeast (λ name. is_some (place_of l.names name)) (rows ++ take l.sale-index l.sales))
