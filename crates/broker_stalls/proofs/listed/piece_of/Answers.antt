use Rattle.broker_stalls.proofs.ListedLaws.{read_whole}
use Rattle.broker_stalls.proofs.listed.piece_of.Goals as goal

pub returns : goal.returns
returns c = rw c.piece.ensures (read_whole c.args.scrip.now.text c.args.scrip.now.piece c.args.scrip.now.cert c.text.ensures.spelled)
