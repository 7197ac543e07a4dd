use Rattle.licence_lines.proofs.OneLicence.{told_once}
use Rattle.licence_lines.proofs.law.inputs_are_of_one_licence.Goals as goal

pub returns : goal.returns
returns c = told_once
