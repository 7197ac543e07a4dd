use Rattle.std.proofs.Common.{sym, subst, Ok}
use Rattle.std.specs.Prelude.{IsTrue}
use Rattle.mc_outside.specs.LinkView.{LinkView}
use Rattle.house_core.specs.Bench.{limits_of, state_of}
use Rattle.link_turns.specs.declared.turn.Turn.{Turn}
use Rattle.house_serving.specs.Links.{RepliesTo}
use Rattle.house_serving.proofs.HouseTurnLemmas.{SentOn, replied_new, replied_again, replied_refused, replied_starved, replied_halted}
use Rattle.house_serving.proofs.house_turn.reply_to.Goals as goal

pub returns-in-New-clause-replied : goal.returns-in-New-clause-replied
returns-in-New-clause-replied g c h st =
    let a = c.args.house.journal.disk in
    let y = c.in-Done.house in
    let z = c.send_settled-sent.new.house in
    let same = g.met.O.Outside.disk_keeps _ _ c.in-Done.ensures.back.moved' in
    let on : SentOn g.O.Link.link g.O.Disk.disk y z = record {
      tells = g.met.O.Outside.sent_aside;
      is_link = g.met.O.Link.is_link y.journal.disk;
      standing = subst (λ (v : LinkView). IsTrue v.stands) (sym same) c.requires.stands;
      keeps = g.met.O.Outside.link_keeps _ _ c.send_settled-sent.ensures.moved;
      goes = g.met.O.Link.link_goes _ _ c.send_settled-sent.ensures.moved;
      rests = c.send_settled-sent.ensures.rests;
    } in
    subst (λ (t : Turn). RepliesTo g.O.Link.link g.O.Disk.disk g.T.Trade.trade (limits_of c.args.house.bench) c.args.q.now c.args.after a (state_of h c.args.house.bench) (Ok (z, t))) (sym c.turn_of.ensures.turn)
    (replied_new g.O.Link.link g.O.Disk.disk g.T.Trade.trade (limits_of c.args.house.bench) c.args.q.now c.args.after a y z (state_of h c.args.house.bench) c.in-New.settled c.send_settled-sent.result on
    c.in-Done.ensures.back.keeps.time (g.met.O.Disk.disk_goes _ _ c.in-Done.ensures.back.moved').aside c.in-Done.ensures.back.counts same (rw c.in-New.is at (c.in-Done.ensures.exact h st)) (rw c.in-New.is at (c.in-Done.ensures.ran h st)) c.send_settled-sent.ensures.sent c.send_settled-sent.ensures.fault)

pub returns-in-Again-clause-replied : goal.returns-in-Again-clause-replied
returns-in-Again-clause-replied g c h st =
    let a = c.args.house.journal.disk in
    let y = c.in-Done.house in
    let z = c.send_kept-sent.new.house in
    let same = g.met.O.Outside.disk_keeps _ _ c.in-Done.ensures.back.moved' in
    let on : SentOn g.O.Link.link g.O.Disk.disk y z = record {
      tells = g.met.O.Outside.sent_aside;
      is_link = g.met.O.Link.is_link y.journal.disk;
      standing = subst (λ (v : LinkView). IsTrue v.stands) (sym same) c.requires.stands;
      keeps = g.met.O.Outside.link_keeps _ _ c.send_kept-sent.ensures.moved;
      goes = g.met.O.Link.link_goes _ _ c.send_kept-sent.ensures.moved;
      rests = c.send_kept-sent.ensures.rests;
    } in
    subst (λ (t : Turn). RepliesTo g.O.Link.link g.O.Disk.disk g.T.Trade.trade (limits_of c.args.house.bench) c.args.q.now c.args.after a (state_of h c.args.house.bench) (Ok (z, t))) (sym c.turn_of-in-Again.ensures.turn)
    (replied_again g.O.Link.link g.O.Disk.disk g.T.Trade.trade (limits_of c.args.house.bench) c.args.q.now c.args.after a y z (state_of h c.args.house.bench) c.in-Again.number c.send_kept-sent.result on
    c.in-Done.ensures.back.keeps.time (rw c.in-Again.is at (c.in-Done.ensures.exact h st)) c.send_kept-sent.ensures.sent c.send_kept-sent.ensures.fault)

pub returns-in-Refused-clause-replied : goal.returns-in-Refused-clause-replied
returns-in-Refused-clause-replied g c h st =
    let a = c.args.house.journal.disk in
    let y = c.in-Refused.house in
    let z = c.send_refusal-sent.new.house in
    let same = g.met.O.Outside.disk_keeps _ _ c.in-Refused.ensures.back.moved' in
    let on : SentOn g.O.Link.link g.O.Disk.disk y z = record {
      tells = g.met.O.Outside.sent_aside;
      is_link = g.met.O.Link.is_link y.journal.disk;
      standing = subst (λ (v : LinkView). IsTrue v.stands) (sym same) c.requires.stands;
      keeps = g.met.O.Outside.link_keeps _ _ c.send_refusal-sent.ensures.moved;
      goes = g.met.O.Link.link_goes _ _ c.send_refusal-sent.ensures.moved;
      rests = c.send_refusal-sent.ensures.rests;
    } in
    subst (λ (t : Turn). RepliesTo g.O.Link.link g.O.Disk.disk g.T.Trade.trade (limits_of c.args.house.bench) c.args.q.now c.args.after a (state_of h c.args.house.bench) (Ok (z, t))) (sym c.turn_of-in-Refused.ensures.turn)
    (replied_refused g.O.Link.link g.O.Disk.disk g.T.Trade.trade (limits_of c.args.house.bench) c.args.q.now c.args.after a y z (state_of h c.args.house.bench) c.in-Refused.refusal c.send_refusal-sent.result on
    c.in-Refused.ensures.back.keeps.time (c.in-Refused.ensures.exact h st) c.send_refusal-sent.ensures.sent c.send_refusal-sent.ensures.fault)

pub returns-in-NoMemory-clause-replied : goal.returns-in-NoMemory-clause-replied
returns-in-NoMemory-clause-replied g c h st =
    let a = c.args.house.journal.disk in
    let y = c.in-NoMemory.house in
    let z = c.send_refusal-sent-in-NoMemory.new.house in
    let same = g.met.O.Outside.disk_keeps _ _ c.in-NoMemory.ensures.back.moved' in
    let on : SentOn g.O.Link.link g.O.Disk.disk y z = record {
      tells = g.met.O.Outside.sent_aside;
      is_link = g.met.O.Link.is_link y.journal.disk;
      standing = subst (λ (v : LinkView). IsTrue v.stands) (sym same) c.requires.stands;
      keeps = g.met.O.Outside.link_keeps _ _ c.send_refusal-sent-in-NoMemory.ensures.moved;
      goes = g.met.O.Link.link_goes _ _ c.send_refusal-sent-in-NoMemory.ensures.moved;
      rests = c.send_refusal-sent-in-NoMemory.ensures.rests;
    } in
    subst (λ (t : Turn). RepliesTo g.O.Link.link g.O.Disk.disk g.T.Trade.trade (limits_of c.args.house.bench) c.args.q.now c.args.after a (state_of h c.args.house.bench) (Ok (z, t))) (sym c.turn_of-in-NoMemory.ensures.turn)
    (replied_starved g.O.Link.link g.O.Disk.disk g.T.Trade.trade (limits_of c.args.house.bench) c.args.q.now c.args.after a y z (state_of h c.args.house.bench) c.send_refusal-sent-in-NoMemory.result on
    c.in-NoMemory.ensures.back.keeps.time (c.in-NoMemory.ensures.exact h st) c.send_refusal-sent-in-NoMemory.ensures.sent c.send_refusal-sent-in-NoMemory.ensures.fault)

pub returns-in-Halted-clause-replied : goal.returns-in-Halted-clause-replied
returns-in-Halted-clause-replied g c h st =
    let a = c.args.house.journal.disk in
    let b = c.in-Halted.halted in
    let d = c.send_disk_fault-told.new.halted in
    let same = g.met.O.Outside.disk_keeps _ _ c.in-Halted.ensures.back.moved' in
    replied_halted g.O.Link.link g.O.Disk.disk g.T.Trade.trade (limits_of c.args.house.bench) c.args.q.now c.args.after a b d (state_of h c.args.house.bench) c.send_disk_fault-told.result
    g.met.O.Outside.sent_aside (g.met.O.Disk.is_disk b) (g.met.O.Link.is_link b) (subst (λ (v : LinkView). IsTrue v.stands) (sym same) c.requires.stands) (g.met.O.Disk.disk_goes _ _ c.in-Halted.ensures.back.moved').aside same
    (g.met.O.Outside.link_keeps _ _ c.send_disk_fault-told.ensures.moved) (g.met.O.Link.link_goes _ _ c.send_disk_fault-told.ensures.moved) (c.in-Halted.ensures.exact h st) (c.in-Halted.ensures.ran h st) (rw c.time-time.ensures at c.send_disk_fault-told.ensures.sent) (rw c.time-time.ensures at c.send_disk_fault-told.ensures.fault)
