use Rattle.vendor_commands.proofs.PlayLaws.{one_text}
use Rattle.vendor_commands.proofs.law.a_play_has_one_text.Goals as goal

pub returns : goal.returns
returns c = one_text c.one_reading.ensures
