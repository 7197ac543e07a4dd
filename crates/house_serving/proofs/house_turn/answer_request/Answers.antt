use Rattle.link_turns.proofs.CauseLemmas.{counts_link, causes_then}
use Rattle.house_serving.proofs.HouseTurnLemmas.{RaisedBy, request_answered}
use Rattle.house_serving.proofs.house_turn.answer_request.Goals as goal

pub returns-clause-causes : goal.returns-clause-causes
returns-clause-causes g c =
    let moved = c.raise_by_clock-reading.ensures.moved in
    causes_then g.O.Link.link g.O.Disk.disk _ _ (λ r. r.0.journal.disk) c.reply_to.result (counts_link g.O.Link.link g.O.Disk.disk _ _ (g.met.O.Outside.link_keeps _ _ moved) (g.met.O.Link.link_goes _ _ moved)) c.reply_to.ensures.causes

pub returns-clause-answered : goal.returns-clause-answered
returns-clause-answered g c h st =
    let x = c.args.house in
    let y = c.raise_by_clock-reading.new.self in
    let was = c.raise_by_clock-reading.ensures in
    let up : RaisedBy g.O.Link.link g.O.Disk.disk g.T.Trade.trade x y c.raise_by_clock-reading.result = record {
      tells = g.met.O.Outside.sent_aside;
      keeps = g.met.O.Outside.link_keeps _ _ was.moved;
      goes = g.met.O.Link.link_goes _ _ was.moved;
      represents = was.stands;
      time = was.time;
      limits = was.limits;
      rest = was.rest;
      read = was.read;
    } in
    request_answered g.O.Link.link g.O.Disk.disk g.T.Trade.trade c.args.q.now c.args.after x y c.raise_by_clock-reading.result h c.reply_to.result up st (c.reply_to.ensures.replied h (was.stands h st))
