-- What contracts see of a counted trade.
use Rattle.counted_trade.specs.declared.counts.Counts.{Counts}

-- its inner trade, and what is counted beside it
pub record CountedView (T : Type 0) : Type 0 where
  pub inner : T
  pub counts : Counts
