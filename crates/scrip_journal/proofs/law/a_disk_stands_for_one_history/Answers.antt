use Rattle.scrip_journal.proofs.Unique.{one_history}
use Rattle.scrip_journal.proofs.law.a_disk_stands_for_one_history.Goals as goal

pub returns : goal.returns
returns c = one_history
