use Rattle.kept_replies.specs.Index.{second_place}
use Rattle.kept_replies.proofs.index.second_of.Goals as goal

pub returns : goal.returns
unfolding second_place
returns c = c.first_of.ensures
