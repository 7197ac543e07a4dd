use Rattle.audit_model.proofs.Expiry.{value_stays, lapsed_grows}
use Rattle.audit_model.proofs.laws.expiry_moves_to_lapsed.Goals as goal

pub returns-clause-kept : goal.returns-clause-kept
returns-clause-kept c = value_stays

pub returns-clause-grows : goal.returns-clause-grows
returns-clause-grows c = lapsed_grows
