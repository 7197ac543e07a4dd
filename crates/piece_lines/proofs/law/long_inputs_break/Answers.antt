use Rattle.piece_lines.proofs.InputLaws.{long_breaks}
use Rattle.piece_lines.proofs.law.long_inputs_break.Goals as goal

pub returns : goal.returns
returns c = long_breaks
