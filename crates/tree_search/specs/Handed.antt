-- What was handed out of a book, each identity once, by what was kept of the books.
use Rattle.std.specs.Prelude.{ℕ, Bool, ◌==◌, if◌then◌else◌, List, [], ◌∷◌, ◌++◌, sum_by, Option}
use Rattle.audit_model.specs.declared.part.Part.{Part}
use Rattle.audit_sums.specs.declared.audit_sums.BookSums.{BookSums}
use Rattle.audit_sums.specs.Learned.{name_of, own_out_of}
use Rattle.audit_search.specs.declared.shops.Shops.{Shops}
use Rattle.audit_search.specs.Known.{has_id}
use Rattle.audit_search.specs.Checks.{is_desk}
use Rattle.tree_search.specs.Desks.{sold_at_desks}

abbrev pub value_of : Part → ℕ
value_of p = p.value

abbrev pub is_id : ℕ → Part → Bool
is_id id p = id == p.id

-- the pieces of identities that were not seen, each once, as it comes first
abbrev pub fresh : List ℕ → List Part → List Part
fresh seen [] = []
fresh seen (p ∷ ps) = if has_id seen p.id then fresh seen ps else p ∷ fresh (p.id ∷ seen) ps

-- the others
abbrev pub stale : List ℕ → List Part → List Part
stale seen [] = []
stale seen (p ∷ ps) = if has_id seen p.id then p ∷ stale seen ps else stale (p.id ∷ seen) ps

-- what was handed out of a book
abbrev pub handed_parts : List (Option Shops) → BookSums → List Part
handed_parts desks s = if is_desk s then own_out_of s else fresh [] (sold_at_desks desks (name_of s) ++ own_out_of s)

-- what was sold again of a vendor
abbrev pub sold_again : List (Option Shops) → BookSums → ℕ
sold_again desks s = if is_desk s then 0 else sum_by value_of (stale [] (sold_at_desks desks (name_of s)))
