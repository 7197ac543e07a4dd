use Rattle.mc_records.proofs.PieceLaws.{list_is}
use Rattle.mc_records.proofs.piece_list.PieceList.bytes.Goals as goal

pub returns : goal.returns
returns c = (list_is c.args.self.now.count c.args.self.now.bytes.now c.args.self.now.spelled).spelled
