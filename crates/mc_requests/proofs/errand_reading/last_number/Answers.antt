use Rattle.mc_requests.proofs.ErrandLaws.{last_told}
use Rattle.mc_requests.proofs.errand_reading.last_number.Goals as goal

pub returns : goal.returns
returns c = last_told c.args.bytes.now c.number_of.result c.number_of.ensures.number c.number_of.ensures.none
