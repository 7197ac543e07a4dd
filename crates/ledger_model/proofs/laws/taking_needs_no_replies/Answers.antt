use Rattle.ledger_model.proofs.WithinLaws.{takes_as}
use Rattle.ledger_model.proofs.laws.taking_needs_no_replies.Goals as goal

pub returns : goal.returns
returns c = takes_as
