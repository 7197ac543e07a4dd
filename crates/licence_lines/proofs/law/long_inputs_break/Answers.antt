use Rattle.licence_lines.proofs.LengthLaws.{long_breaks}
use Rattle.licence_lines.proofs.law.long_inputs_break.Goals as goal

pub returns : goal.returns
returns c = long_breaks
