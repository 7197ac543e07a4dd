use Rattle.std.proofs.Common.{sym}
use Rattle.mc_records.proofs.PieceLaws.{list_is}
use Rattle.mc_records.proofs.piece_list.PieceList.count.Goals as goal

pub returns-clause-count : goal.returns-clause-count
returns-clause-count c = sym (list_is c.args.self.now.count c.args.self.now.bytes.now c.args.self.now.spelled).counted

pub returns-clause-pieces : goal.returns-clause-pieces
returns-clause-pieces c = (list_is c.args.self.now.count c.args.self.now.bytes.now c.args.self.now.spelled).good
