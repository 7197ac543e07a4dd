use Rattle.scrip_form.proofs.Laws.{text_is_short}
use Rattle.piece_lines.proofs.line.line.Goals as goal

pub returns-clause-short : goal.returns-clause-short
returns-clause-short c = rw c.text-text.ensures.text (text_is_short _ _ _ c.text-text.ensures.spelled)
