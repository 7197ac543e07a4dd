use Rattle.world_laws.proofs.PaymentRuns.{paying_is_run, trying_is_run}
use Rattle.world_laws.proofs.runs.paying_is_a_run.Goals as goal

pub returns : goal.returns
returns g c = record { paying = paying_is_run g.O.Link.link g.O.Disk.disk; trying = trying_is_run g.O.Link.link g.O.Disk.disk }
