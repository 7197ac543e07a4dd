-- What is found of one book.
use Rattle.std.specs.Prelude.{◌≡◌, ℕ, if◌then◌else◌, List, Option, None, Some, Result, Ok, Err}
use Rattle.ledger_model.specs.Histories.{History}
use Rattle.ledger_model.specs.Houses.{site_name, is_broker}
use Rattle.ledger_model.specs.Sums.{values, outstanding, lapsed}
use Rattle.audit_model.specs.declared.part.Part.{Part}
use Rattle.audit_model.specs.Strangers.{first_of}
use Rattle.audit_model.specs.Brokers.{sold_by, again}
use Rattle.audit_sums.specs.declared.audit_sums.BookSums.{BookSums}
use Rattle.audit_sums.specs.Learned.{accepted_of}
use Rattle.audit_search.specs.declared.spent.Left.{Left}
use Rattle.audit_search.specs.declared.check.CheckFault.{CheckFault}
use Rattle.audit_search.specs.declared.check.CheckFault.TheVariants as faults
use Rattle.audit_search.specs.Known.{has_part}
use Rattle.audit_search.specs.Strange.{not_in, first_in}
use Rattle.audit_search.specs.Checks.{left_at}
use Rattle.relayed_books.specs.Tree.{Sold, is_genuine, handed_at, strangers_from}
use Rattle.tree_search.specs.declared.check.Checked.{Checked}

-- the first stranger of a book of which these pieces were handed out and of whose sales this is told
abbrev pub stranger_by : List Part → List (Option ℕ) → BookSums → Option ℕ
stranger_by handed told s = first_in (not_in (has_part handed)) (λ (o : Option ℕ). o) (accepted_of s) told

abbrev pub FindsIn : List Part → List (Option ℕ) → BookSums → Result Left CheckFault → Type 0
FindsIn handed told s (Ok left) = (stranger_by handed told s ≡ None) × (left ≡ left_at handed s)
FindsIn handed told s (Err (faults.Stranger id)) = stranger_by handed told s ≡ Some id
FindsIn handed told s (Err faults.NoMemory) = Unit {0}

-- ---- by the history

abbrev pub first_strange : List History → List History → List Sold → History → Option ℕ
first_strange bs vs earlier h = first_of (strangers_from (is_genuine bs vs) (handed_at bs) earlier h h)

-- no stranger stands in it, and this is left of what was handed out of it
pub record IsSound (bs vs : List History) (earlier : List Sold) (h : History) (c : Checked) : Type 0 where
  pub none : first_strange bs vs earlier h ≡ None
  pub outstanding' : c.left.outstanding ≡ outstanding (handed_at bs h) h
  pub lapsed' : c.left.lapsed ≡ lapsed (handed_at bs h) h
  pub again' : c.again ≡ (if is_broker h then 0 else values (again (sold_by bs (site_name h))))

abbrev pub IsChecked : List History → List History → List Sold → History → Result Checked CheckFault → Type 0
IsChecked bs vs earlier h (Ok c) = IsSound bs vs earlier h c
IsChecked bs vs earlier h (Err (faults.Stranger id)) = first_strange bs vs earlier h ≡ Some id
IsChecked bs vs earlier h (Err faults.NoMemory) = Unit {0}
