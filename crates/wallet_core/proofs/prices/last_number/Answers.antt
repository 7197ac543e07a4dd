use Rattle.mc_requests.proofs.ErrandLaws.{last_told}
use Rattle.wallet_core.proofs.prices.last_number.Goals as goal

pub returns-clause-number : goal.returns-clause-number
returns-clause-number c = last_told c.args.bytes.now c.number_of.result c.number_of.ensures.number c.number_of.ensures.none
