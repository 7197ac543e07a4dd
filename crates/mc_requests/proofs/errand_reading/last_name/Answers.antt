use Rattle.std.proofs.Common.{refl}
use Rattle.std.proofs.lemmas.Bool.{false≢true}
use Rattle.mc_requests.proofs.ErrandLaws.{name_last, no_name_last}
use Rattle.mc_requests.proofs.errand_reading.last_name.Goals as goal

pub returns-in-Some : goal.returns-in-Some
returns-in-Some c = name_last c.args.bytes.now (c.in-Some.ensures.valid.0 refl)

pub returns-in-None : goal.returns-in-None
returns-in-None c = no_name_last c.args.bytes.now (λ is. false≢true (c.in-None.ensures.valid.1 is))
