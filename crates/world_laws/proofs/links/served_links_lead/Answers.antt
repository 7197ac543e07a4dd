use Rattle.world_laws.proofs.LinkLemmas.{all_lead, some_lead, first_lead, doubt_leads, all_fronts_lead, some_fronts_lead}
use Rattle.world_laws.proofs.links.served_links_lead.Goals as goal

pub returns : goal.returns
returns c = record { all = all_lead; some = some_lead; first = first_lead; doubt = doubt_leads; all_fronts = all_fronts_lead; some_fronts = some_fronts_lead }
