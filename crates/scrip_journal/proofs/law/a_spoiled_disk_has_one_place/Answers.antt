use Rattle.scrip_journal.proofs.Unique.{one_place, not_both}
use Rattle.scrip_journal.proofs.law.a_spoiled_disk_has_one_place.Goals as goal

pub returns : goal.returns
returns c = record { one = one_place; none = not_both }
