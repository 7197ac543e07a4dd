-- Which books stand together, by what was kept of them.
use Rattle.std.specs.Prelude.{Bool, true, not, ◌&&◌, List, [], ◌∷◌, filter, flat_map, bytes_eq}
use Rattle.std.specs.List.{list_any}
use Rattle.audit_model.specs.declared.sold.Sold.{Sold}
use Rattle.audit_sums.specs.declared.audit_sums.BookSums.{BookSums}
use Rattle.audit_sums.specs.Learned.{name_of, sales_of}
use Rattle.audit_search.specs.Checks.{is_desk}

-- whether the names of some books differ
abbrev pub own_all : List BookSums → Bool
own_all [] = true
own_all (s ∷ ss) = not (list_any (λ w. bytes_eq (name_of w) (name_of s)) ss) && own_all ss

-- the sales of the brokers' books
abbrev pub desk_sales : List BookSums → List Sold
desk_sales books = flat_map sales_of (filter is_desk books)
