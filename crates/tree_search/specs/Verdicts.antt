-- What is told of each sale of a book.
use Rattle.std.specs.Prelude.{ℕ, Bool, not, ◌&&◌, ◌||◌, if◌then◌else◌, List, [], ◌∷◌, ◌++◌, Option, None, Some, option_map, option_to_list}
use Rattle.ledger_model.specs.Histories.{History}
use Rattle.ledger_model.specs.Stock.{Sale}
use Rattle.audit_model.specs.declared.part.Part.{Part}
use Rattle.audit_model.specs.Strangers.{first_of}
use Rattle.audit_model.specs.declared.sold.Sold.{Sold as Row}
use Rattle.audit_search.specs.declared.shops.Shops.{Shops}
use Rattle.audit_search.specs.Standing.{has_minted}
use Rattle.relayed_books.specs.Tree.{Sold, sold_as, sold_stranger}
use Rattle.tree_search.specs.declared.licences.Licences.{Licences}
use Rattle.tree_search.specs.Marks.{is_other, seller_view, seller_at}

-- whether a piece of a vendor of this place that a broker sold may be sold
abbrev pub passes : Shops → Licences → ℕ → Part → List ℕ → Row → Bool
passes shops l place part broker s =
    not s.stock || (has_minted shops s.vendor part.id part.value || is_other (option_map seller_view (seller_at l place part.id part.value)) broker)

abbrev pub verdict_on : Bool → Bool → ℕ → Option ℕ
verdict_on real barred id = if real && not barred then None else Some id

-- The identity of each sale that is not genuine or can't stand with one before it, and nothing of the others.
abbrev pub verdicts : (Sold → Bool) → List Sold → History → List Sale → List (Option ℕ)
verdicts genuine earlier h [] = []
verdicts genuine earlier h (s ∷ ss) =
    first_of (sold_stranger genuine earlier (sold_as h s)) ∷ verdicts genuine (earlier ++ option_to_list (sold_as h s)) h ss
