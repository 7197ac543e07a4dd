use Rattle.std.proofs.Common.{sym, subst}
use Rattle.link_turns.specs.declared.turn.Turn.{Turn}
use Rattle.scrip_journal.specs.Batches.{batch_rests_then}
use Rattle.house_together.specs.Replying.{SendsDue}
use Rattle.house_together.proofs.ReplyingLemmas.{sends_due}
use Rattle.house_together.proofs.replies.send_due.Goals as goal

pub returns-clause-sent : goal.returns-clause-sent
returns-clause-sent g c =
    let a = c.args.batch.now.disk in
    let m = c.turn_to.new.self.disk in
    let b = c.send_all.new.k.disk in
    let turned = c.turn_to.ensures.turned.0 in
    let moved = c.send_all.ensures.moved.0 in
    subst (λ (t : Turn). SendsDue g.O.Slots.slots g.O.Disk.disk c.args.slot c.args.reply.now c.args.after a b t) (sym c.turn_of.ensures.turn)
    (sends_due g.O.Slots.slots g.O.Disk.disk g.O.Link.link c.args.slot c.args.reply.now c.args.after a m b c.send_all.result
    (g.met.O.Slots.turns_stay _ _ turned) c.turn_to.ensures.at (g.met.O.Sides.turn_keeps _ _ turned) (g.met.O.Slots.here m) (g.met.O.Slots.here b) (g.met.O.Link.is_link m)
    (g.met.O.Slots.works_here _ _ moved) (g.met.O.Sides.link_keeps _ _ moved) (g.met.O.Sides.sends_behind _ _ moved) c.requires.stands c.send_all.ensures.sent c.send_all.ensures.fault)

pub returns-clause-rests : goal.returns-clause-rests
returns-clause-rests g c = batch_rests_then _ _ _ c.turn_to.ensures.turned.1 c.send_all.ensures.moved.1
