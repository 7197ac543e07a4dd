use Rattle.piece_lines.proofs.InputLaws.{front_tells}
use Rattle.piece_lines.proofs.law.fronts_tell_the_input.Goals as goal

pub returns : goal.returns
returns c = front_tells
