use Rattle.std.proofs.Common.{rules}
use Rattle.kept_replies.specs.Index.{first_place}
use Rattle.kept_replies.proofs.index.first_of.Goals as goal

pub returns : goal.returns
unfolding first_place
returns c = search rules
