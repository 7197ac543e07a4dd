-- What contracts see of a house without a journal.
use Rattle.house_state.specs.HouseState.{HouseStateView}
use Rattle.house_core.specs.declared.tally.Tally.{Tally}

-- its state, the trade that it carries, and how the items were answered that it served
pub record BenchView (T : Type 0) : Type 0 where
  pub state : HouseStateView
  pub trade : T
  pub tally : Tally
