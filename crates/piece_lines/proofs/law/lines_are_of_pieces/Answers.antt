use Rattle.piece_lines.proofs.InputLaws.{are_pieces_read}
use Rattle.piece_lines.proofs.law.lines_are_of_pieces.Goals as goal

pub returns : goal.returns
returns c = are_pieces_read
