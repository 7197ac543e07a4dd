-- What contracts see of a house over a journal.
use Rattle.scrip_journal.specs.States.{AtRest}
use Rattle.house_core.specs.BenchView.{BenchView}

pub record HouseView (D : Type 0) (T : Type 0) : Type 0 where
  pub journal : AtRest D
  pub bench : BenchView T
