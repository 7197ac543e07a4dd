use Rattle.world_model.proofs.Walks.{plays_append, plays_split}
use Rattle.world_model.proofs.laws.schedules_go_on.Goals as goal

pub returns : goal.returns
returns c = record { joined = plays_append; cut = plays_split }
