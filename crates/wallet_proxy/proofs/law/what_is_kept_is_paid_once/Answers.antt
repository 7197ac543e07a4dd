use Rattle.wallet_proxy.proofs.AgainLaws.{item_stays, item_most, item_once}
use Rattle.wallet_proxy.proofs.law.what_is_kept_is_paid_once.Goals as goal

pub returns-clause-stays : goal.returns-clause-stays
returns-clause-stays c = item_stays

pub returns-clause-again : goal.returns-clause-again
returns-clause-again c = item_most

pub returns-clause-once : goal.returns-clause-once
returns-clause-once c = item_once
