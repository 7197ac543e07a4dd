use Rattle.mc_requests.proofs.DateLemmas.{date_of_a_second, text_of_a_second}
use Rattle.mc_requests.proofs.date_law.date_of_its_second.Goals as goal

pub returns : goal.returns
returns c = record { made = date_of_a_second; only = text_of_a_second }
