use Rattle.world_laws.proofs.RequestLemmas.{paying_is_played, trying_is_played}
use Rattle.world_laws.proofs.requests.paying_is_asking_and_taking.Goals as goal

pub returns : goal.returns
returns g c = record { paying = paying_is_played g.O.Link.link g.O.Disk.disk; trying = trying_is_played g.O.Link.link g.O.Disk.disk }
