-- What the terms of an entry keep within.
use Rattle.std.specs.Prelude.{ℕ, ◌<◌, ◌≤◌, List, length}
use Rattle.scrip_form.specs.Issuing.{HasPeriod}

-- 1 to 16 secrets
abbrev pub AreSome : List (List ℕ) → Type 0
AreSome secrets = (0 < length secrets) × (length secrets ≤ 16)

pub record HasRanges (period life : ℕ) (scrip customer : List (List ℕ)) : Type 0 where
  pub times : HasPeriod period life
  pub scrips : AreSome scrip
  pub customers : AreSome customer
