use Rattle.audit_model.proofs.Strange.{no_stranger, none_strange}
use Rattle.audit_model.proofs.laws.strangers_were_not_handed_out.Goals as goal

pub returns-clause-none : goal.returns-clause-none
returns-clause-none c = no_stranger

pub returns-clause-only : goal.returns-clause-only
returns-clause-only c = none_strange
