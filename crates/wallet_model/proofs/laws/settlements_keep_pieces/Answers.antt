use Rattle.wallet_model.proofs.CameLaws.{change_is_old, got_is_old}
use Rattle.wallet_model.proofs.WrittenLaws.{settled_state, others_state}
use Rattle.wallet_model.proofs.laws.settlements_keep_pieces.Goals as goal

pub returns-clause-paid : goal.returns-clause-paid
returns-clause-paid c = settled_state

pub returns-clause-others : goal.returns-clause-others
returns-clause-others c = others_state

pub returns-clause-change : goal.returns-clause-change
returns-clause-change c = change_is_old

pub returns-clause-got : goal.returns-clause-got
returns-clause-got c = got_is_old
