use Rattle.mc_records.proofs.EntryLaws.{no_prefix}
use Rattle.mc_records.proofs.law.no_payload_begins_another.Goals as goal

pub returns : goal.returns
returns c = no_prefix
