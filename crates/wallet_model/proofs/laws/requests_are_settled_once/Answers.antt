use Rattle.wallet_model.proofs.PaidLaws.{settled_is_kept, kept_below, book_next, settled_once}
use Rattle.wallet_model.proofs.laws.requests_are_settled_once.Goals as goal

pub returns-clause-kept : goal.returns-clause-kept
returns-clause-kept c = settled_is_kept

pub returns-clause-below : goal.returns-clause-below
returns-clause-below c = kept_below

pub returns-clause-next : goal.returns-clause-next
returns-clause-next c = book_next

pub returns-clause-once : goal.returns-clause-once
returns-clause-once c = settled_once
