use Rattle.wallet_model.proofs.WrittenLaws.{pend_follows, settlement_follows, switch_follows}
use Rattle.wallet_model.proofs.laws.written_entries_follow.Goals as goal

pub returns-clause-pend : goal.returns-clause-pend
returns-clause-pend c = pend_follows

pub returns-clause-settlement : goal.returns-clause-settlement
returns-clause-settlement c = settlement_follows

pub returns-clause-switch : goal.returns-clause-switch
returns-clause-switch c = switch_follows
