-- What there is to do to pay a statement, and to state a series: the lines of which the first that applies decides.
use Rattle.std.specs.Prelude.{ℕ, not, ◌==◌, nat_lt, if◌then◌else◌, bytes_eq, List, Option, Some, None, option_and_then, Result, Ok, Err}
use Rattle.scrip_form.specs.Issuing.{Issuing, series_end}
use Rattle.mc_requests.specs.declared.refusal.Refusal.TheVariants.{BadInput, NoVendor, BadStatement, PaidTwice, SeriesOpen, OverSold, NoTerms}
use Rattle.ledger_model.specs.Histories.{History}
use Rattle.ledger_model.specs.Houses.{terms_in}
use Rattle.ledger_model.specs.Stock.{licence_in, of_issuer}
use Rattle.ledger_model.specs.Lines.{Stop, Refuse, Repeat, ◌>>=◌, given, refused_if}
use Rattle.settle_core.specs.declared.claim.Claim.{Claim}
use Rattle.settle_core.specs.declared.claim.Payment.{Payment}
use Rattle.settle_core.specs.declared.claim.Statement.{Statement}
use Rattle.settle_core.specs.Claims.{statement_cert}
use Rattle.settle_core.specs.Settlement.{paid_amount, stated_amount, redeemed, sold_under}

-- an input, read: a statement, or the line at which it breaks
abbrev pub read_input : Result Statement ℕ → Result Statement Stop
read_input (Ok s) = Ok s
read_input (Err line) = Err (Refuse (BadInput line))

-- the terms of a vendor's licence, where it is of an issuer
abbrev pub licence_for : History → List ℕ → ℕ → Option Issuing
licence_for b vendor issuer = option_and_then (of_issuer issuer) (licence_in b vendor)

-- what was paid before: the same comes again, with its amount, and another amount is refused
abbrev pub paid_before : ℕ → Option ℕ → Result (Unit {0}) Stop
paid_before amount None = Ok tt
paid_before amount (Some paid) = if paid == amount then Err (Repeat amount) else Err (Refuse (PaidTwice paid))

-- the payment of a series, after 43 and 75
abbrev pub paid_by_terms : History → ℕ → Payment → Issuing → Result Payment Stop
paid_by_terms b t p terms =
    paid_before p.claim.amount (paid_amount b p.vendor p.claim.issuer p.claim.epoch)
    >>= λ _. refused_if (nat_lt t (series_end terms p.claim.epoch)) (SeriesOpen (series_end terms p.claim.epoch) t)
    >>= λ _. refused_if (nat_lt (sold_under b p.vendor p.claim.issuer p.claim.epoch) p.claim.amount) (OverSold (sold_under b p.vendor p.claim.issuer p.claim.epoch))
    >>= λ _. Ok p

-- 53, 43, 75, the same payment again, 76, 74, 77: the payment to be entered. 33 is the journal's.
abbrev pub pay_lines : History → ℕ → Result Statement ℕ → Result Payment Stop
pay_lines b t input = do
  s ← read_input input
  terms ← given (licence_for b s.payment.vendor s.payment.claim.issuer) NoVendor
  _ ← refused_if (not (bytes_eq s.cert (statement_cert terms s.payment))) BadStatement
  paid_by_terms b t s.payment terms

-- what was stated before comes again
abbrev pub stated_before : Option ℕ → Result (Unit {0}) Stop
stated_before None = Ok tt
stated_before (Some amount) = Err (Repeat amount)

-- what a vendor states of a series
abbrev pub claim_at : History → ℕ → ℕ → Claim
claim_at v issuer epoch = record { issuer = issuer; epoch = epoch; amount = redeemed v issuer epoch }

-- 71, 74, the same statement again: the claim to be entered. 33 is the journal's.
abbrev pub state_lines : History → ℕ → ℕ → ℕ → Result Claim Stop
state_lines v t issuer epoch = do
  terms ← given (terms_in v issuer) NoTerms
  _ ← refused_if (nat_lt t (series_end terms epoch)) (SeriesOpen (series_end terms epoch) t)
  _ ← stated_before (stated_amount v issuer epoch)
  Ok (claim_at v issuer epoch)
