use Rattle.std.proofs.Common.{sym, subst}
use Rattle.std.specs.Prelude.{IsTrue}
use Rattle.mc_outside.specs.LinkView.{LinkView}
use Rattle.millicent_http.specs.HeadRefusals.{as_refusal}
use Rattle.house_core.specs.Bench.{limits_of, state_of}
use Rattle.link_turns.specs.declared.turn.Turn.{Turn}
use Rattle.house_serving.specs.Links.{RefusesHead}
use Rattle.link_turns.proofs.CauseLemmas.{counts_link, counts_then}
use Rattle.house_serving.proofs.HouseTurnLemmas.{RaisedBy, SentOn, head_answered}
use Rattle.house_serving.proofs.house_turn.answer_refused.Goals as goal

pub returns-clause-counts : goal.returns-clause-counts
returns-clause-counts g c =
    let first = c.raise_by_clock-reading.ensures.moved in
    let second = c.send_refusal-sent.ensures.moved in
    counts_then g.O.Link.link g.O.Disk.disk _ _ _
    (counts_link g.O.Link.link g.O.Disk.disk _ _ (g.met.O.Outside.link_keeps _ _ first) (g.met.O.Link.link_goes _ _ first))
    (counts_link g.O.Link.link g.O.Disk.disk _ _ (g.met.O.Outside.link_keeps _ _ second) (g.met.O.Link.link_goes _ _ second))

pub returns-clause-answered : goal.returns-clause-answered
returns-clause-answered g c h st =
    let x = c.args.house in
    let y = c.raise_by_clock-reading.new.self in
    let z = c.send_refusal-sent.new.house in
    let was = c.raise_by_clock-reading.ensures in
    let up : RaisedBy g.O.Link.link g.O.Disk.disk g.T.Trade.trade x y c.raise_by_clock-reading.result = record {
      tells = g.met.O.Outside.sent_aside;
      keeps = g.met.O.Outside.link_keeps _ _ was.moved;
      goes = g.met.O.Link.link_goes _ _ was.moved;
      represents = was.stands;
      time = was.time;
      limits = was.limits;
      rest = was.rest;
      read = was.read;
    } in
    let on : SentOn g.O.Link.link g.O.Disk.disk y z = record {
      tells = g.met.O.Outside.sent_aside;
      is_link = g.met.O.Link.is_link y.journal.disk;
      standing = subst (λ (v : LinkView). IsTrue v.stands) (sym was.rest) c.requires.stands;
      keeps = g.met.O.Outside.link_keeps _ _ c.send_refusal-sent.ensures.moved;
      goes = g.met.O.Link.link_goes _ _ c.send_refusal-sent.ensures.moved;
      rests = c.send_refusal-sent.ensures.rests;
    } in
    subst (λ (t : Turn). RefusesHead g.O.Link.link g.O.Disk.disk g.T.Trade.trade (limits_of x.bench) (as_refusal c.args.head) c.args.after x.journal.disk (state_of h x.bench) (z, t)) (sym c.turn_of.ensures.turn)
    (head_answered g.O.Link.link g.O.Disk.disk g.T.Trade.trade (as_refusal c.args.head) c.args.after x y z c.raise_by_clock-reading.result h c.send_refusal-sent.result up on st
    (rw c.from.ensures at c.send_refusal-sent.ensures.sent) (rw c.from.ensures at c.send_refusal-sent.ensures.fault))
