-- What the notes of a book keep.
use Rattle.std.specs.Prelude.{◌≡◌, ℕ, ◌≤◌, List, Some, count_by}
use Rattle.std.specs.List.{AllByRecursion}
use Rattle.scrip_form.specs.Issuing.{Issuing, series_end}
use Rattle.ledger_model.specs.Histories.{History, time}
use Rattle.ledger_model.specs.Houses.{terms_in}
use Rattle.settle_core.specs.declared.claim.Claim.{Claim}
use Rattle.settle_core.specs.Settlement.{statements, payments, is_paid_for, redeemed, sold_under, settled}

-- no series is paid twice, and no payments pass what was sold under the licence
pub record PaymentsKeep (h : History) : Type 0 where
  pub once : (vendor : List ℕ) (issuer epoch : ℕ) → count_by (is_paid_for vendor issuer epoch) (payments h) ≤ 1
  pub covered : (vendor : List ℕ) (issuer epoch : ℕ) → settled h vendor issuer epoch ≤ sold_under h vendor issuer epoch

-- a statement is still what was redeemed of its series, which has ended
pub record StillStands (h : History) (c : Claim) : Type 0 where
  pub terms : Issuing
  pub stand : terms_in h c.issuer ≡ Some terms
  pub ended : series_end terms c.epoch ≤ time h
  pub is : c.amount ≡ redeemed h c.issuer c.epoch

abbrev pub StatementsKeep : History → Type 0
StatementsKeep h = AllByRecursion (StillStands h) (statements h)
