use Rattle.wallet_proxy.proofs.TargetLaws.{item_asks_for, item_brought}
use Rattle.wallet_proxy.proofs.law.what_is_asked_is_sent_and_told.Goals as goal

pub returns-clause-sent : goal.returns-clause-sent
returns-clause-sent c = item_asks_for

pub returns-clause-told : goal.returns-clause-told
returns-clause-told c = item_brought
