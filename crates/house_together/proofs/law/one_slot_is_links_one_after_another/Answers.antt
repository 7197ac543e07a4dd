use Rattle.house_core.specs.Session.{Step}
use Rattle.link_rounds.proofs.AloneLemmas.{one_slot}
use Rattle.house_together.proofs.law.one_slot_is_links_one_after_another.Goals as goal

pub returns : goal.returns
returns c limits clock s p all n before after of had = one_slot (Step limits) clock s p all n before after of had
