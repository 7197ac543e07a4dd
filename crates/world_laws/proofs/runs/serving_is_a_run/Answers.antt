use Rattle.world_laws.proofs.RunLemmas.{serving_is_run, halting_is_run}
use Rattle.world_laws.proofs.runs.serving_is_a_run.Goals as goal

pub returns : goal.returns
returns g c = record { serving = serving_is_run g.O.Link.link g.O.Disk.disk; halting = halting_is_run g.O.Link.link g.O.Disk.disk }
