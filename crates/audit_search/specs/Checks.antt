-- What is found of each book, by what was kept of it.
use Rattle.std.specs.Prelude.{◌≡◌, ℕ, ◌+◌, Bool, ◌==◌, if◌then◌else◌, List, [], ◌∷◌, ◌++◌, Option, None, Some, option_map, sum_by, Result, Ok, Err}
use Rattle.std.specs.Option.{option_or}
use Rattle.ledger_model.specs.declared.numbers.TheConstants.{BROKER_KIND}
use Rattle.audit_model.specs.declared.part.Part.{Part}
use Rattle.audit_model.specs.declared.sums.VendorSums.{VendorSums}
use Rattle.audit_sums.specs.declared.audit_sums.BookSums.{BookSums}
use Rattle.audit_sums.specs.Learned.{name_of, kind_of, time_of, till_of, accepted_of, own_out_of, sales_of}
use Rattle.audit_search.specs.declared.shop.Shop.{Shop}
use Rattle.audit_search.specs.declared.spent.Left.{Left}
use Rattle.audit_search.specs.declared.fault.BooksFault.{BooksFault}
use Rattle.audit_search.specs.declared.fault.BooksFault.TheVariants as audits
use Rattle.audit_search.specs.declared.check.CheckFault.{CheckFault}
use Rattle.audit_search.specs.declared.check.CheckFault.TheVariants as faults
use Rattle.audit_search.specs.Known.{has_part, was_accepted, out_at, gone_at}
use Rattle.audit_search.specs.Strange.{sold_at, not_in, not_minted, first_in}

abbrev pub is_desk : BookSums → Bool
is_desk s = kind_of s == BROKER_KIND

-- the pieces of a vendor's that were sold; a broker has none of its own among them
abbrev pub sold_from : List Shop → BookSums → List Part
sold_from shops s = if is_desk s then [] else sold_at shops (name_of s)

-- what was handed out of a book: the sold pieces, and those of its own series
abbrev pub handed_from : List Shop → BookSums → List Part
handed_from shops s = sold_from shops s ++ own_out_of s

-- its first stranger
abbrev pub stranger_in : List Shop → BookSums → Option ℕ
stranger_in shops s = first_in (not_in (has_part (handed_from shops s))) (not_minted shops) (accepted_of s) (sales_of s)

-- what is left of some pieces that were handed out of a book
abbrev pub left_at : List Part → BookSums → Left
left_at handed s = record {
  outstanding = sum_by (out_at (was_accepted (accepted_of s)) (time_of s)) handed;
  lapsed = sum_by (gone_at (was_accepted (accepted_of s)) (time_of s)) handed;
}

abbrev pub left_in : List Shop → BookSums → Left
left_in shops s = left_at (handed_from shops s) s

-- what a check of a book answers
abbrev pub ChecksBook : List Shop → BookSums → Result Left CheckFault → Type 0
ChecksBook shops s (Ok left) = (stranger_in shops s ≡ None) × (left ≡ left_in shops s)
ChecksBook shops s (Err (faults.Stranger id)) = stranger_in shops s ≡ Some id
ChecksBook shops s (Err faults.NoMemory) = Unit {0}

-- the fault of an audit, where it is of the book at a place
abbrev pub fault_at : ℕ → BookSums → CheckFault → BooksFault
fault_at place s (faults.Stranger id) = audits.Stranger place (name_of s) id
fault_at place s faults.NoMemory = audits.NoMemory

-- the sums of a vendor of whose pieces this is left
abbrev pub row_with : BookSums → Left → VendorSums
row_with s left = record { name = name_of s; takings = (till_of s).takings; outstanding = left.outstanding; lapsed = left.lapsed }

abbrev pub row_of : List Shop → BookSums → VendorSums
row_of shops s = row_with s (left_in shops s)

-- the first stranger of some books, by book and then by entry; the first book has this number
abbrev pub first_over : ℕ → List Shop → List BookSums → Option (ℕ × ℕ)
first_over n shops [] = None
first_over n shops (s ∷ ss) = option_or (option_map (λ id. (n, id)) (stranger_in shops s)) (first_over (n + 1) shops ss)
