-- Which notes settle series, and which of them are in order.
use Rattle.std.specs.Prelude.{◌≡◌, ℕ, ◌≤◌, Bool, ◌==◌, ◌&&◌, bytes_eq, if◌then◌else◌, List, [], codes, Option, Some, None, option_map, option_and_then, find, filter, filter_map, sum_by, MatchOption, IfSome}
use Rattle.scrip_form.specs.Identities.{issuer_of, epoch_of}
use Rattle.scrip_form.specs.Issuing.{Issuing, series_end}
use Rattle.mc_requests.specs.declared.limits.Limits.{Limits}
use Rattle.mc_records.specs.Entry.{Entry, Note, moment_of}
use Rattle.mc_records.specs.Following.{AllFollowBy}
use Rattle.ledger_model.specs.Histories.{History}
use Rattle.ledger_model.specs.Houses.{terms_in}
use Rattle.ledger_model.specs.Pieces.{accepted}
use Rattle.ledger_model.specs.Stock.{Sale, sales, licence_in, is_licensed}
use Rattle.ledger_model.specs.Sums.{values}
use Rattle.ledger_model.specs.Lawful.{IsLawful}
use Rattle.settle_core.specs.Claims.{claim_of, payment_of}
use Rattle.settle_core.specs.declared.claim.Claim.{Claim}
use Rattle.settle_core.specs.declared.claim.Payment.{Payment}

-- ---- what notes say

-- the bytes of a note with this tag
abbrev pub noted : List ℕ → Entry → Option (List ℕ)
noted tag (Note m t bytes) = if bytes_eq t tag then Some bytes else None
noted tag _ = None

-- the bytes by which an entry states what was redeemed, and those by which it pays
abbrev pub stated_bytes : Entry → Option (List ℕ)
stated_bytes e = noted (codes "stated") e

abbrev pub paid_bytes : Entry → Option (List ℕ)
paid_bytes e = noted (codes "pay") e

-- what an entry states, and what it pays
abbrev pub stated_by : Entry → Option Claim
stated_by e = option_and_then claim_of (stated_bytes e)

abbrev pub paid_by : Entry → Option Payment
paid_by e = option_and_then payment_of (paid_bytes e)

-- the statements and the payments of a history, in order
abbrev pub statements : History → List Claim
statements h = filter_map stated_by h

abbrev pub payments : History → List Payment
payments h = filter_map paid_by h

-- whether a claim is for a series
abbrev pub is_for : ℕ → ℕ → Claim → Bool
is_for issuer epoch c = c.issuer == issuer && c.epoch == epoch

-- whether a payment is for a series of a vendor's
abbrev pub is_paid_for : List ℕ → ℕ → ℕ → Payment → Bool
is_paid_for vendor issuer epoch p = bytes_eq p.vendor vendor && is_for issuer epoch p.claim

-- what was stated of a series, and what was paid for a series of a vendor's, where something was
abbrev pub stated_amount : History → ℕ → ℕ → Option ℕ
stated_amount h issuer epoch = option_map (λ c. c.amount) (find (is_for issuer epoch) (statements h))

abbrev pub paid_amount : History → List ℕ → ℕ → ℕ → Option ℕ
paid_amount h vendor issuer epoch = option_map (λ p. p.claim.amount) (find (is_paid_for vendor issuer epoch) (payments h))

-- ---- sums

-- whether an identity is of a series
abbrev pub is_of_series : ℕ → ℕ → ℕ → Bool
is_of_series issuer epoch id = issuer_of id == issuer && epoch_of id == epoch

-- what a house redeemed of a series: the values of the accepted pieces
abbrev pub redeemed : History → ℕ → ℕ → ℕ
redeemed h issuer epoch = values (filter (λ p. is_of_series issuer epoch p.id) (accepted h))

-- what a broker sold of a series under a vendor's licence
abbrev pub is_sold_in : List ℕ → ℕ → ℕ → Sale → Bool
is_sold_in vendor issuer epoch s = is_licensed vendor s && is_of_series issuer epoch s.id

abbrev pub sold_under : History → List ℕ → ℕ → ℕ → ℕ
sold_under h vendor issuer epoch = sum_by (λ s. s.value) (filter (is_sold_in vendor issuer epoch) (sales h))

-- what was paid for a series of a vendor's
abbrev pub settled : History → List ℕ → ℕ → ℕ → ℕ
settled h vendor issuer epoch = sum_by (λ p. p.claim.amount) (filter (is_paid_for vendor issuer epoch) (payments h))

-- ---- notes in order

-- a statement after a history, at a moment: of an issuer that has terms, of a series that has ended, which was not
-- stated before, and of what was redeemed of it
pub record StatedInOrder (h : History) (m : ℕ) (c : Claim) : Type 0 where
  pub terms : Issuing
  pub stand : terms_in h c.issuer ≡ Some terms
  pub ended : series_end terms c.epoch ≤ m
  pub first : stated_amount h c.issuer c.epoch ≡ None
  pub is : c.amount ≡ redeemed h c.issuer c.epoch

-- a payment likewise: of a vendor who has a licence of that issuer, of a series that has ended, which was not paid
-- before, and of at most what was sold of it under the licence
pub record PaidInOrder (h : History) (m : ℕ) (p : Payment) : Type 0 where
  pub terms : Issuing
  pub licence : licence_in h p.vendor ≡ Some terms
  pub of_issuer : terms.issuer ≡ p.claim.issuer
  pub ended : series_end terms p.claim.epoch ≤ m
  pub first : paid_amount h p.vendor p.claim.issuer p.claim.epoch ≡ None
  pub covered : p.claim.amount ≤ sold_under h p.vendor p.claim.issuer p.claim.epoch

-- the text of something, of which this holds
abbrev pub IsTextOf : {A : Type 0} → (List ℕ → Option A) → (A → Type 0) → List ℕ → Type 0
IsTextOf read P bytes = MatchOption (read bytes) ⊥ P

-- An entry is in order where, as a note that states or pays, it is the text of what may be stated or paid after these
-- entries. Notes with other tags are, and all other entries.
pub record IsInOrder (h : History) (e : Entry) : Type 0 where
  pub stated : IfSome (stated_bytes e) (IsTextOf claim_of (StatedInOrder h (moment_of e)))
  pub paid : IfSome (paid_bytes e) (IsTextOf payment_of (PaidInOrder h (moment_of e)))

-- each entry of a book is in order after those before it
abbrev pub AreInOrder : History → Type 0
AreInOrder h = AllFollowBy IsInOrder [] h

-- a lawful book whose notes are in order
pub record IsSettled (limits : Limits) (h : History) : Type 0 where
  pub lawful : IsLawful limits h
  pub in_order : AreInOrder h
