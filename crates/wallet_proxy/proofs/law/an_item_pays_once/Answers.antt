use Rattle.wallet_proxy.proofs.StepLaws.{item_grows, item_paid, item_within, item_up}
use Rattle.wallet_proxy.proofs.CostLaws.{item_cost}
use Rattle.wallet_proxy.proofs.law.an_item_pays_once.Goals as goal

pub returns-clause-grows : goal.returns-clause-grows
returns-clause-grows c = item_grows

pub returns-clause-paid : goal.returns-clause-paid
returns-clause-paid c = item_paid

pub returns-clause-costs : goal.returns-clause-costs
returns-clause-costs c = item_cost

pub returns-clause-within : goal.returns-clause-within
returns-clause-within c = item_within

pub returns-clause-asks : goal.returns-clause-asks
returns-clause-asks c = item_up
