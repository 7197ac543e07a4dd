use Rattle.std.proofs.Common.{refl}
use Rattle.mc_top.proofs.whole_link.once.Goals as goal

pub returns-in-Ok-None-clause-words : goal.returns-in-Ok-None-clause-words
returns-in-Ok-None-clause-words c two = c.in-Ok-None.ensures.none (rw c.in-Ok-None.field-0-is refl)
