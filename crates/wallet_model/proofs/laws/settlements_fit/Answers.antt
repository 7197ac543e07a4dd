use Rattle.wallet_model.proofs.FitLaws.{settlement_fits, requests_have}
use Rattle.wallet_model.proofs.laws.settlements_fit.Goals as goal

pub returns-clause-pieces : goal.returns-clause-pieces
returns-clause-pieces c = requests_have

pub returns-clause-fits : goal.returns-clause-fits
returns-clause-fits c = settlement_fits
