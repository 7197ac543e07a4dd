use Rattle.std.proofs.Common.{inr, ap}
use Rattle.std.specs.Prelude.{is_some}
use Rattle.mc_top.proofs.naming.proxied.Goals as goal

pub returns-in-None : goal.returns-in-None
returns-in-None c = inr (c.in_ok-proxying.ensures.none (ap is_some c.in-None.is), c.nowhere.ensures)
