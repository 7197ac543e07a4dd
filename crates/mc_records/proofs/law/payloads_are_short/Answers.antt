use Rattle.mc_records.proofs.PayloadSizes.{payload_is_short}
use Rattle.mc_records.proofs.law.payloads_are_short.Goals as goal

pub returns : goal.returns
returns c = payload_is_short
