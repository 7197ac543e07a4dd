use Rattle.wallet_model.proofs.KeptLaws.{kept_pend, kept_done, kept_refused}
use Rattle.wallet_model.proofs.PieceLaws.{pieces_more, state_more, holdings_more}
use Rattle.wallet_model.proofs.laws.one_entry_more.Goals as goal

pub returns-clause-pieces : goal.returns-clause-pieces
returns-clause-pieces c = pieces_more

pub returns-clause-state : goal.returns-clause-state
returns-clause-state c = state_more

pub returns-clause-holdings : goal.returns-clause-holdings
returns-clause-holdings c = holdings_more

pub returns-clause-pend : goal.returns-clause-pend
returns-clause-pend c = kept_pend

pub returns-clause-done : goal.returns-clause-done
returns-clause-done c = kept_done

pub returns-clause-refused : goal.returns-clause-refused
returns-clause-refused c = kept_refused
