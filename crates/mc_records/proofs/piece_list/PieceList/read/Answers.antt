use Rattle.std.proofs.Common.{sym, ◌∙◌}
use Rattle.mc_records.proofs.PieceLaws.{list_is, same_pieces}
use Rattle.mc_records.proofs.piece_list.PieceList.read.Goals as goal

pub returns-in-Some-clause-found : goal.returns-in-Some-clause-found
returns-in-Some-clause-found c =
    let l = list_is c.of.result.count c.of.result.bytes.now c.of.result.spelled in
    (l.good, sym c.of.ensures.bytes ∙ l.spelled)

pub returns-in-Some-clause-only : goal.returns-in-Some-clause-only
returns-in-Some-clause-only c = λ pieces good same.
    let l = list_is c.of.result.count c.of.result.bytes.now c.of.result.spelled in
    same_pieces _ pieces l.good.held good.held (sym l.spelled ∙ c.of.ensures.bytes ∙ same)
