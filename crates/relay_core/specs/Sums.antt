-- The sums of the books of several brokers and of vendors.
use Rattle.std.specs.Prelude.{◌≡◌, ℕ, List, [], None, map}
use Rattle.std.specs.List.Sorted.{IsPermutation, IsSortedBy}
use Rattle.std.specs.Ordering.{nat_cmp, is_lt}
use Rattle.std.specs.Cmp.Lexicographic.{slice_cmp}
use Rattle.mc_requests.specs.declared.limits.Limits.{Limits}
use Rattle.ledger_model.specs.Histories.{History}
use Rattle.ledger_model.specs.Houses.{site_name}
use Rattle.ledger_model.specs.Accounts.{all_balances}
use Rattle.ledger_model.specs.Pieces.{own_out}
use Rattle.ledger_model.specs.Sums.{paid_in, paid_out, fees, takings, outstanding, lapsed}
use Rattle.audit_model.specs.declared.sums.VendorSums.{VendorSums}
use Rattle.audit_model.specs.Brokers.{handed_by, relayed, AreBooksOf, AreBalanced}
use Rattle.relay_core.specs.declared.tree.BrokerSums.{BrokerSums}
use Rattle.relay_core.specs.declared.tree.Tree.{Tree}
use Rattle.relayed_books.specs.Tree.{AreOfTree, first_stranger}

-- those of a broker's book
abbrev pub sums_of_broker : History → BrokerSums
sums_of_broker b = record {
  name = site_name b;
  paid_in = paid_in b;
  paid_out = paid_out b;
  accounts = all_balances b;
  fees = fees b;
  outstanding = outstanding (own_out b) b;
  lapsed = lapsed (own_out b) b;
}

-- those of a vendor's beside brokers
abbrev pub sums_of_vendor : List History → History → VendorSums
sums_of_vendor bs v = record { name = site_name v; takings = takings v; outstanding = outstanding (handed_by bs v) v; lapsed = lapsed (handed_by bs v) v }

-- rows in the order of their names, by their bytes
pub record AreByName {R : Type 0} (name : R → List ℕ) (rows ordered : List R) : Type 0 where
  pub same : IsPermutation rows ordered
  pub order : IsSortedBy (λ a b. is_lt (slice_cmp nat_cmp (name a) (name b))) ordered

-- What is told of books of brokers, of which there is one or more, and of vendors in which no stranger stands: they balance,
-- and the sums are the ledger's, by name.
pub record IsTold (limits : Limits) (books : List History) (t : Tree) : Type 0 where
  pub brokers : List History
  pub vendors : List History
  pub all_books : AreBooksOf limits brokers vendors
  pub tree : AreOfTree brokers vendors books
  pub some : brokers ≡ [] → ⊥
  pub none : first_stranger brokers vendors books ≡ None
  pub balanced : AreBalanced brokers vendors
  pub broker_rows : AreByName (λ b. b.name) (map sums_of_broker brokers) t.brokers
  pub vendor_rows : AreByName (λ v. v.name) (map (sums_of_vendor brokers) vendors) t.vendors
  pub relayed' : t.relayed ≡ relayed brokers vendors
