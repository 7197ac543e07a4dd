use Rattle.play_heads.specs.Playing.{link_of}
use Rattle.play_heads.proofs.ReceivingLaws.{is_play}
use Rattle.play_heads.proofs.law.heads_told_are_of_their_play.Goals as goal

pub returns : goal.returns
returns c = λ h p. is_play h.count h.end h.supply h.whole h.clock (link_of h) h.over h.telling.standing.faultless p
