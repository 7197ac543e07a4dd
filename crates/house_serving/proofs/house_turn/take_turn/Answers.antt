use Rattle.std.proofs.Common.{subst}
use Rattle.mc_requests.specs.Requests.{Asked}
use Rattle.house_core.specs.Bench.{limits_of, state_of}
use Rattle.house_serving.specs.Links.{AnswersRequest}
use Rattle.link_turns.proofs.CauseLemmas.{counts_link, counts_then, causes_then}
use Rattle.link_turns.proofs.TurnLemmas.{head_target, head_given, refused_given, given_if}
use Rattle.house_serving.proofs.HouseTurnLemmas.{ReadOn, head_turns, refused_turns, end_turns, fault_turns, read_stands}
use Rattle.house_serving.proofs.house_turn.take_turn.Goals as goal

pub answer_request-requires-clause-target : goal.answer_request-requires-clause-target
answer_request-requires-clause-target g c = rw c.of.ensures (head_target c.args.reader.now _ _ c.in-Head.q c.in-Head.after _ c.take.result c.take.follows.holds-at-none c.in-Head.is)

pub returns-in-Head-clause-causes : goal.returns-in-Head-clause-causes
returns-in-Head-clause-causes g c =
    let moved = c.take.ensures.moved.0 in
    causes_then g.O.Link.link g.O.Disk.disk _ _ (λ r. r.0.journal.disk) c.answer_request.result (counts_link g.O.Link.link g.O.Disk.disk _ _ (g.met.O.Outside.link_keeps _ _ moved) (g.met.O.Link.link_goes _ _ moved)) c.answer_request.ensures.causes

pub returns-in-Head-clause-given : goal.returns-in-Head-clause-given
returns-in-Head-clause-given g c =
    given_if c.answer_request.result _ _ c.answer_request.ensures.open
    (head_given c.args.reader.now _ _ c.in-Head.q c.in-Head.after _ c.take.result c.take.follows.holds-at-none c.in-Head.is)

pub returns-in-Head-clause-turned : goal.returns-in-Head-clause-turned
returns-in-Head-clause-turned g c h st =
    let x = c.args.house in
    let y = c.take.new.k in
    let on : ReadOn g.O.Link.link g.O.Disk.disk x y = record {
      tells = g.met.O.Outside.sent_aside;
      keeps = g.met.O.Outside.link_keeps _ _ c.take.ensures.moved.0;
      goes = g.met.O.Link.link_goes _ _ c.take.ensures.moved.0;
      rests = c.take.ensures.moved.1;
    } in
    head_turns g.O.Link.link g.O.Disk.disk g.T.Trade.trade c.in-Head.q c.in-Head.after x y h c.args.reader.now c.take.follows.lender-at-none c.take.result c.answer_request.result
    c.take.follows.holds-at-none c.in-Head.is on st
    (subst (λ (q : Asked). AnswersRequest g.O.Link.link g.O.Disk.disk g.T.Trade.trade (limits_of y.bench) q c.in-Head.after y.journal.disk (state_of h y.bench) c.answer_request.result) c.of.ensures
    (c.answer_request.ensures.answered h (read_stands g.O.Link.link g.O.Disk.disk g.T.Trade.trade x y h on st)))

pub returns-in-Refused-clause-causes : goal.returns-in-Refused-clause-causes
returns-in-Refused-clause-causes g c =
    let moved = c.take.ensures.moved.0 in
    counts_then g.O.Link.link g.O.Disk.disk _ _ _ (counts_link g.O.Link.link g.O.Disk.disk _ _ (g.met.O.Outside.link_keeps _ _ moved) (g.met.O.Link.link_goes _ _ moved)) c.answer_refused.ensures.counts

pub returns-in-Refused-clause-given : goal.returns-in-Refused-clause-given
returns-in-Refused-clause-given g c goes =
    refused_given c.args.reader.now _ _ c.in-Refused.head c.in-Refused.after _ c.take.result c.take.follows.holds-at-none c.in-Refused.is (c.answer_refused.ensures.open goes)

pub returns-in-Refused-clause-turned : goal.returns-in-Refused-clause-turned
returns-in-Refused-clause-turned g c h st =
    let x = c.args.house in
    let y = c.take.new.k in
    let on : ReadOn g.O.Link.link g.O.Disk.disk x y = record {
      tells = g.met.O.Outside.sent_aside;
      keeps = g.met.O.Outside.link_keeps _ _ c.take.ensures.moved.0;
      goes = g.met.O.Link.link_goes _ _ c.take.ensures.moved.0;
      rests = c.take.ensures.moved.1;
    } in
    refused_turns g.O.Link.link g.O.Disk.disk g.T.Trade.trade c.in-Refused.head c.in-Refused.after x y h c.args.reader.now c.take.follows.lender-at-none c.take.result c.answer_refused.result
    c.take.follows.holds-at-none c.in-Refused.is on st (c.answer_refused.ensures.answered h (read_stands g.O.Link.link g.O.Disk.disk g.T.Trade.trade x y h on st))

pub returns-in-End-clause-causes : goal.returns-in-End-clause-causes
returns-in-End-clause-causes g c =
    let moved = c.take.ensures.moved.0 in
    counts_link g.O.Link.link g.O.Disk.disk _ _ (g.met.O.Outside.link_keeps _ _ moved) (g.met.O.Link.link_goes _ _ moved)

pub returns-in-End-clause-turned : goal.returns-in-End-clause-turned
returns-in-End-clause-turned g c h st =
    let x = c.args.house in
    let y = c.take.new.k in
    let on : ReadOn g.O.Link.link g.O.Disk.disk x y = record {
      tells = g.met.O.Outside.sent_aside;
      keeps = g.met.O.Outside.link_keeps _ _ c.take.ensures.moved.0;
      goes = g.met.O.Link.link_goes _ _ c.take.ensures.moved.0;
      rests = c.take.ensures.moved.1;
    } in
    end_turns g.O.Link.link g.O.Disk.disk g.T.Trade.trade x y h c.args.reader.now c.take.follows.lender-at-none c.take.result c.take.follows.holds-at-none c.in-End.is on st

pub returns-in-Fault-clause-causes : goal.returns-in-Fault-clause-causes
returns-in-Fault-clause-causes g c =
    let moved = c.take.ensures.moved.0 in
    counts_link g.O.Link.link g.O.Disk.disk _ _ (g.met.O.Outside.link_keeps _ _ moved) (g.met.O.Link.link_goes _ _ moved)

pub returns-in-Fault-clause-turned : goal.returns-in-Fault-clause-turned
returns-in-Fault-clause-turned g c h st =
    let x = c.args.house in
    let y = c.take.new.k in
    let on : ReadOn g.O.Link.link g.O.Disk.disk x y = record {
      tells = g.met.O.Outside.sent_aside;
      keeps = g.met.O.Outside.link_keeps _ _ c.take.ensures.moved.0;
      goes = g.met.O.Link.link_goes _ _ c.take.ensures.moved.0;
      rests = c.take.ensures.moved.1;
    } in
    fault_turns g.O.Link.link g.O.Disk.disk g.T.Trade.trade x y h c.args.reader.now c.take.follows.lender-at-none c.take.result c.take.follows.holds-at-none c.in-Fault.is on st
