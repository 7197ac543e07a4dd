-- The piece that is issued for a coin. It is in version 1; who issues it puts it into the version of its series.
use Rattle.std.specs.Prelude.{ℕ, List, [], Option, Some, None}
use Rattle.scrip_form.specs.Issuing.{Issuing, epoch, series_end}
use Rattle.scrip_form.specs.Scrip.{Scrip}

-- A piece for a customer keeps the props that are given. Where no customer is given it is
-- first-hand: its customer's identity is its own, and it has no props.
abbrev pub issued_piece : Issuing → ℕ → List ℕ → ℕ → ℕ → Option ℕ → List ℕ → Scrip
issued_piece terms now vendor value id (Some cust) props =
    record { version = 1; vendor = vendor; value = value; id = id; cust = cust; expires = series_end terms (epoch terms now); props = props }
issued_piece terms now vendor value id None props =
    record { version = 1; vendor = vendor; value = value; id = id; cust = id; expires = series_end terms (epoch terms now); props = [] }
