use Rattle.std.proofs.Common.{◌∙◌}
use Rattle.broker_core.proofs.desk.Desk.licence.Goals as goal

pub returns-in-Some : goal.returns-in-Some
returns-in-Some c h stands = c.licence.ensures.terms ∙ (c.in-Some.ensures.shows h stands).terms

pub returns-in-None : goal.returns-in-None
returns-in-None c h stands = (c.in-None.ensures.shows h stands).terms
