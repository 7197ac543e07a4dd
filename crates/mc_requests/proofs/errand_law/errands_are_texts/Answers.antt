use Rattle.mc_requests.proofs.ErrandLaws.{errand_told, errand_read}
use Rattle.mc_requests.proofs.TargetLaws.{errand_is_target}
use Rattle.mc_requests.proofs.errand_law.errands_are_texts.Goals as goal

pub returns-clause-told : goal.returns-clause-told
returns-clause-told c = errand_told

pub returns-clause-read : goal.returns-clause-read
returns-clause-read c = errand_read

pub returns-clause-target : goal.returns-clause-target
returns-clause-target c = errand_is_target
