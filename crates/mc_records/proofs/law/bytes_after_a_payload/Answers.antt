use Rattle.mc_records.proofs.EntryLaws.{more_follows}
use Rattle.mc_records.proofs.law.bytes_after_a_payload.Goals as goal

pub returns : goal.returns
returns c = more_follows
