-- The ranges of limits.
use Rattle.std.specs.Prelude.{◌≤◌}
use Rattle.mc_requests.specs.declared.limits.Limits.{Limits}
use Rattle.mc_requests.specs.declared.limits.TheConstants.Limits.{LEAST_JOURNAL, MOST_JOURNAL, MOST_SERIES}

pub record AreInRange (l : Limits) : Type 0 where
  pub journal_least : LEAST_JOURNAL ≤ l.journal
  pub journal_most : l.journal ≤ MOST_JOURNAL
  pub series_least : 1 ≤ l.series
  pub series_most : l.series ≤ MOST_SERIES
