use Rattle.house_state.proofs.PartLaws.{in_parts}
use Rattle.house_state.proofs.law.entries_follow_in_parts.Goals as goal

pub returns : goal.returns
returns g c limits kind h e house of_kind = in_parts g.T.Trade.passes limits kind h e house of_kind
