use Rattle.wallet_proxy.proofs.DoubtLaws.{doubt_unsent, doubt_one, doubt_within}
use Rattle.wallet_proxy.proofs.RunLaws.{item_doubt}
use Rattle.wallet_proxy.proofs.law.what_is_in_doubt.Goals as goal

pub returns-clause-unsent : goal.returns-clause-unsent
returns-clause-unsent c = doubt_unsent

pub returns-clause-one : goal.returns-clause-one
returns-clause-one c = doubt_one

pub returns-clause-within : goal.returns-clause-within
returns-clause-within c = doubt_within

pub returns-clause-lawful : goal.returns-clause-lawful
returns-clause-lawful c = λ b s q added e up sound doubt. (item_doubt b s q added e up sound doubt).lawful

pub returns-clause-asks : goal.returns-clause-asks
returns-clause-asks c = λ b s q added e up sound doubt. (item_doubt b s q added e up sound doubt).asks
