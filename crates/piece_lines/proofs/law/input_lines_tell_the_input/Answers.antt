use Rattle.piece_lines.proofs.LineLaws.{input_told}
use Rattle.piece_lines.proofs.InputLaws.{told_only}
use Rattle.piece_lines.proofs.law.input_lines_tell_the_input.Goals as goal

pub returns-clause-told : goal.returns-clause-told
returns-clause-told c = input_told

pub returns-clause-only : goal.returns-clause-only
returns-clause-only c = told_only
