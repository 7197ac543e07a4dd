-- The books of one broker and of vendors, what was handed out of them, and the sum of all money.
use Rattle.std.specs.Prelude.{◌≡◌, ℕ, ◌+◌, IsTrue, IsFalse, List, [], ◌∷◌, Some, sum_by, bytes_eq}
use Rattle.std.specs.List.{list_any, AllByRecursion}
use Rattle.mc_requests.specs.declared.limits.Limits.{Limits}
use Rattle.mc_records.specs.Entry.{Fits}
use Rattle.ledger_model.specs.declared.numbers.TheConstants.{VENDOR_KIND, BROKER_KIND}
use Rattle.ledger_model.specs.Histories.{History}
use Rattle.ledger_model.specs.Houses.{site_name, site_kind}
use Rattle.ledger_model.specs.Pieces.{accepted, own_out, minted}
use Rattle.ledger_model.specs.Accounts.{all_balances}
use Rattle.ledger_model.specs.Stock.{sales, stock_sold}
use Rattle.ledger_model.specs.Sums.{paid_in, paid_out, fees, takings, handed_out, outstanding, lapsed}
use Rattle.ledger_model.specs.Lawful.{IsLawful}
use Rattle.audit_model.specs.Meets.{AreAmong}

-- ---- books

-- a lawful history of a kind of site, whose entries are within the ranges that a journal has room for
pub record IsBook (limits : Limits) (kind : ℕ) (h : History) : Type 0 where
  pub lawful : IsLawful limits h
  pub site : site_kind h ≡ Some kind
  pub fits : AllByRecursion Fits h

-- the names of some sites differ
abbrev pub HaveOwnNames : List History → Type 0
HaveOwnNames [] = Unit {0}
HaveOwnNames (v ∷ vs) = IsFalse (list_any (λ w. bytes_eq (site_name w) (site_name v)) vs) × HaveOwnNames vs

-- the books of one broker and of vendors with names of their own, among them each vendor of which the broker sold
pub record AreBooks (limits : Limits) (b : History) (vs : List History) : Type 0 where
  pub broker : IsBook limits BROKER_KIND b
  pub vendors : AllByRecursion (IsBook limits VENDOR_KIND) vs
  pub names : HaveOwnNames vs
  pub sold_for : AllByRecursion (λ s. IsTrue (list_any (λ v. bytes_eq s.vendor (site_name v)) vs)) (sales b)

-- ---- what was handed out

-- By identity and value, each piece that a house accepted was handed out: the broker's own out of its series, a
-- vendor's by the broker that sold it or as the vendor's change. And what was sold out of stock, its vendor minted.
pub record IsHandedOut (b : History) (vs : List History) : Type 0 where
  pub own : AreAmong (own_out b) (accepted b)
  pub accepted_pieces : AllByRecursion (λ v. AreAmong (handed_out b v) (accepted v)) vs
  pub stock : AllByRecursion (λ v. AreAmong (minted v) (stock_sold b (site_name v))) vs

-- ---- the sum

-- takings, outstanding and lapsed of a vendor beside a broker
abbrev pub vendor_sum : History → History → ℕ
vendor_sum b v = takings v + outstanding (handed_out b v) v + lapsed (handed_out b v) v

-- paid out, in accounts, fees, and outstanding and lapsed of a broker
abbrev pub broker_sum : History → ℕ
broker_sum b = paid_out b + all_balances b + fees b + outstanding (own_out b) b + lapsed (own_out b) b

-- What was paid in was paid out, stands in accounts, is the broker's fees or a vendor's takings, or is in pieces of
-- theirs that are outstanding or lapsed, each by the time of its own house.
abbrev pub IsBalanced : History → List History → Type 0
IsBalanced b vs = paid_in b ≡ broker_sum b + sum_by (vendor_sum b) vs
