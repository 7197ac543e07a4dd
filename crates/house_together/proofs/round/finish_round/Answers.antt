use Rattle.house_together.proofs.ReplyingLemmas.{due_kept}
use Rattle.house_together.proofs.RoundCrash.{finishes}
use Rattle.house_together.proofs.round.finish_round.Goals as goal

pub send_round-requires : goal.send_round-requires
send_round-requires g c = record { due = due_kept _ _ _ _ (g.met.O.Sides.disk_keeps _ _ c.in-Ok.ensures.moved).0 c.requires.due }

pub returns-in-Ok-clause-finished : goal.returns-in-Ok-clause-finished
returns-in-Ok-clause-finished g c h es is =
    finishes g.O.Slots.slots g.O.Disk.disk (λ o. g.met.O.Sides.link_keeps o o (g.met.O.Link.link_stays o)) c.args.out.now c.args.batch c.in-Ok.committed c.send_round.new.batch h es c.args.dues.now c.send_round.ensures.replied.0 c.send_round.ensures.replied.1 is (c.in-Ok.ensures.committed h es is) c.send_round.ensures.rests
    (c.in-Ok.ensures.ran h es is) (g.met.O.Disk.disk_goes _ _ c.in-Ok.ensures.moved).aside
