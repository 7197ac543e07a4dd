use Rattle.ledger_model.proofs.ReferenceLaws.{reference_twice, references_once}
use Rattle.ledger_model.proofs.broker_laws.references_stand_once.Goals as goal

pub returns-clause-twice : goal.returns-clause-twice
returns-clause-twice c = reference_twice

pub returns-clause-once : goal.returns-clause-once
returns-clause-once c = references_once
