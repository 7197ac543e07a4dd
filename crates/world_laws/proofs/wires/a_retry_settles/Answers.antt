use Rattle.world_laws.proofs.WireLemmas.{retries_settle}
use Rattle.world_laws.proofs.wires.a_retry_settles.Goals as goal

pub returns : goal.returns
returns g c = record { retries = retries_settle g.O.Disk.disk }
