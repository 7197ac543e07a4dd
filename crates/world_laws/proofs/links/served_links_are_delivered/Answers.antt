use Rattle.world_laws.proofs.LinkLemmas.{link_is_schedule, all_are_played, some_are_played, first_are_played}
use Rattle.world_laws.proofs.links.served_links_are_delivered.Goals as goal

pub returns : goal.returns
returns c = record { link = link_is_schedule; all = all_are_played; some = some_are_played; first = first_are_played }
