-- The terms of an issuer, and the series that they give.
use Rattle.std.specs.Prelude.{ℕ, ◌+◌, ◌*◌, ◌/◌, ◌%◌, ◌≤◌, ◌^◌, List, [], length, slice_index_or}
use Rattle.scrip_form.specs.Identities.{epoch_of}
use Rattle.scrip_form.specs.declared.terms.TheConstants.Terms.{LEAST_PERIOD, MOST_SECONDS}

pub record Issuing : Type 0 where
  pub issuer : ℕ
  pub period : ℕ
  pub life : ℕ
  pub scrip : List (List ℕ)
  pub customer : List (List ℕ)

-- the ranges of the period and the life, in seconds
pub record HasPeriod (period life : ℕ) : Type 0 where
  pub least : LEAST_PERIOD ≤ period
  pub most : period ≤ MOST_SECONDS
  pub short : life ≤ MOST_SECONDS

-- the epoch of a moment: the moment divided by the period, rounded down
abbrev pub epoch : Issuing → ℕ → ℕ
epoch t moment = moment / t.period

-- the series that an issuer hands out at a moment
abbrev pub series_at : Issuing → ℕ → ℕ
series_at t moment = t.issuer * 2 ^ 24 + epoch t moment

-- the end of the series of an epoch
abbrev pub series_end : Issuing → ℕ → ℕ
series_end t e = (e + 1) * t.period + t.life

-- the secret that an identity selects: the one whose number is its epoch modulo the count
abbrev pub selected : List (List ℕ) → ℕ → List ℕ
selected secrets id = slice_index_or secrets (epoch_of id % length secrets) []
