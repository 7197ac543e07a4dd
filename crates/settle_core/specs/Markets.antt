-- Statements of a vendor beside a broker's book.
use Rattle.std.specs.Prelude.{◌≡◌, ℕ, ◌≤◌, Some, None, Ok}
use Rattle.scrip_form.specs.Issuing.{Issuing, series_end}
use Rattle.ledger_model.specs.Histories.{History}
use Rattle.ledger_model.specs.Houses.{site_name, terms_in}
use Rattle.ledger_model.specs.Stock.{licence_in}
use Rattle.settle_core.specs.declared.claim.Payment.{Payment}
use Rattle.settle_core.specs.Claims.{statement_cert, statement_line}
use Rattle.settle_core.specs.Statements.{statement_input}
use Rattle.settle_core.specs.Settlement.{paid_amount, redeemed, sold_under}
use Rattle.settle_core.specs.Tasks.{claim_at, pay_lines}

-- what a vendor redeemed of a series is at most what a broker sold of it under the vendor's licence
abbrev pub IsCovered : History → ℕ → ℕ → History → Type 0
IsCovered b issuer epoch v = redeemed v issuer epoch ≤ sold_under b (site_name v) issuer epoch

-- what a vendor asks to be paid for a series
abbrev pub payment_at : History → ℕ → ℕ → Payment
payment_at v issuer epoch = record { vendor = site_name v; claim = claim_at v issuer epoch }

-- Where the broker's licence for the vendor has the vendor's terms of the issuer, the series has ended at the broker's time,
-- and nothing was paid for it before, the vendor's statement of it is paid.
abbrev pub IsPaidAt : History → ℕ → ℕ → ℕ → History → Type 0
IsPaidAt b t issuer epoch v =
    (terms : Issuing) → terms_in v issuer ≡ Some terms → licence_in b (site_name v) ≡ Some terms → series_end terms epoch ≤ t
    → paid_amount b (site_name v) issuer epoch ≡ None
    → pay_lines b t (Ok (record { payment = payment_at v issuer epoch; cert = statement_cert terms (payment_at v issuer epoch) })) ≡ Ok (payment_at v issuer epoch)

-- The same of the line that the vendor says, as the broker reads it.
abbrev pub IsPaidByLine : History → ℕ → ℕ → ℕ → History → Type 0
IsPaidByLine b t issuer epoch v =
    (terms : Issuing) → terms_in v issuer ≡ Some terms → licence_in b (site_name v) ≡ Some terms → series_end terms epoch ≤ t
    → paid_amount b (site_name v) issuer epoch ≡ None
    → pay_lines b t (statement_input (statement_line terms (payment_at v issuer epoch))) ≡ Ok (payment_at v issuer epoch)
