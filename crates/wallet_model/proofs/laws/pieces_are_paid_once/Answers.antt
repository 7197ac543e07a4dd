use Rattle.wallet_model.proofs.PaidLaws.{book_counted, stays_last, asked_once, paid_once}
use Rattle.wallet_model.proofs.laws.pieces_are_paid_once.Goals as goal

pub returns-clause-pending : goal.returns-clause-pending
returns-clause-pending c = book_counted

pub returns-clause-last : goal.returns-clause-last
returns-clause-last c = stays_last

pub returns-clause-asked : goal.returns-clause-asked
returns-clause-asked c = asked_once

pub returns-clause-settled : goal.returns-clause-settled
returns-clause-settled c = paid_once
