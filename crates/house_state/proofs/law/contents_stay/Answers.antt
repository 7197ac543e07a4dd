use Rattle.house_state.proofs.KeptLaws.{contents_stay}
use Rattle.house_state.proofs.law.contents_stay.Goals as goal

pub returns : goal.returns
returns c h more deed contents brought = contents_stay h more deed contents brought
