use Rattle.std.proofs.Common.{◌≡◌, ap, subst}
use Rattle.mc_requests.specs.Requests.{asked_of}
use Rattle.mc_outside.specs.LinkView.{LinkView}
use Rattle.millicent_http.specs.HeadRefusals.{as_refusal}
use Rattle.wallet_book.specs.Book.{BookView}
use Rattle.wallet_core.specs.Rests.{wallet_keeps}
use Rattle.link_turns.proofs.CauseLemmas.{counts_link, counts_then, causes_then}
use Rattle.wallet_proxy.specs.Proxy.{Bounds}
use Rattle.wallet_proxy.specs.Links.{AnswersRequest, RefusesHead, bounds_of, now, state_at}
use Rattle.link_turns.proofs.TurnLemmas.{head_target}
use Rattle.wallet_proxy.proofs.ItemLemmas.{head_turns, refused_turns, end_turns, fault_turns}
use Rattle.wallet_proxy.proofs.turn.take_turn.Goals as goal

pub answer_request-requires-clause-target : goal.answer_request-requires-clause-target
answer_request-requires-clause-target g c = head_target c.args.heads.now _ _ c.in-Head.q c.in-Head.after _ c.take.result c.take.follows.holds-at-none c.in-Head.is

pub returns-in-Head-clause-causes : goal.returns-in-Head-clause-causes
returns-in-Head-clause-causes g c =
    let moved = c.take.ensures.moved.0 in
    causes_then g.O.Link.link g.O.Disk.disk _ _ (λ r. r.0.journal.disk) c.answer_request.result (counts_link g.O.Link.link g.O.Disk.disk _ _ (g.met.O.Outside.link_keeps _ _ moved) (g.met.O.Link.link_goes _ _ moved)) c.answer_request.ensures.causes

pub returns-in-Head-clause-turned : goal.returns-in-Head-clause-turned
returns-in-Head-clause-turned g c h st few =
    let x = c.args.wallet in
    let y = c.take.new.k in
    let a = c.args.allowance.now in
    let b : Bounds = bounds_of a x.book.limits in
    let up : LinkView = g.U.Link.link c.args.up.now in
    let keeps = g.met.O.Outside.link_keeps _ _ c.take.ensures.moved.0 in
    let goes = g.met.O.Link.link_goes _ _ c.take.ensures.moved.0 in
    let rests = c.take.ensures.moved.1 in
    let same : bounds_of a y.book.limits ≡ b = ap (λ (k : BookView). bounds_of a k.limits) rests.book in
    let now_up : LinkView = g.U.Link.link c.answer_request.new.up in
    head_turns g.O.Link.link g.O.Disk.disk g.met.O.Outside.sent_aside b x y h c.args.paid.now up keeps goes rests st few c.in-Head.q c.in-Head.after c.args.heads.now c.take.follows.lender-at-none c.take.result c.answer_request.new.paid now_up c.answer_request.result
    c.take.follows.holds-at-none c.in-Head.is
    (subst (λ (k : Bounds). AnswersRequest g.O.Link.link g.O.Disk.disk k (asked_of c.in-Head.q) c.in-Head.after y.journal.disk (state_at h (now y c.args.paid.now up)) c.answer_request.new.paid now_up c.answer_request.result) same
    (c.answer_request.ensures.answered h (wallet_keeps g.O.Disk.disk x y h st keeps rests) few))

pub returns-in-Refused-clause-moved : goal.returns-in-Refused-clause-moved
returns-in-Refused-clause-moved g c = g.met.U.Link.link_stays _

pub returns-in-Refused-clause-causes : goal.returns-in-Refused-clause-causes
returns-in-Refused-clause-causes g c =
    let moved = c.take.ensures.moved.0 in
    counts_then g.O.Link.link g.O.Disk.disk _ _ _ (counts_link g.O.Link.link g.O.Disk.disk _ _ (g.met.O.Outside.link_keeps _ _ moved) (g.met.O.Link.link_goes _ _ moved)) c.answer_refused.ensures.counts

pub returns-in-Refused-clause-turned : goal.returns-in-Refused-clause-turned
returns-in-Refused-clause-turned g c h st few =
    let x = c.args.wallet in
    let y = c.take.new.k in
    let a = c.args.allowance.now in
    let b : Bounds = bounds_of a x.book.limits in
    let up : LinkView = g.U.Link.link c.args.up.now in
    let keeps = g.met.O.Outside.link_keeps _ _ c.take.ensures.moved.0 in
    let goes = g.met.O.Link.link_goes _ _ c.take.ensures.moved.0 in
    let rests = c.take.ensures.moved.1 in
    let same : bounds_of a y.book.limits ≡ b = ap (λ (k : BookView). bounds_of a k.limits) rests.book in
    refused_turns g.O.Link.link g.O.Disk.disk g.met.O.Outside.sent_aside b x y h c.args.paid.now up keeps goes rests st few c.in-Refused.head c.in-Refused.after c.args.heads.now c.take.follows.lender-at-none c.take.result c.answer_refused.result
    c.take.follows.holds-at-none c.in-Refused.is
    (subst (λ (k : Bounds). RefusesHead g.O.Link.link g.O.Disk.disk k (as_refusal c.in-Refused.head) c.in-Refused.after y.journal.disk (state_at h (now y c.args.paid.now up)) c.args.paid.now up c.answer_refused.result) same
    (c.answer_refused.ensures.answered h a c.args.paid.now up (wallet_keeps g.O.Disk.disk x y h st keeps rests) few))

pub returns-in-End-clause-causes : goal.returns-in-End-clause-causes
returns-in-End-clause-causes g c =
    let moved = c.take.ensures.moved.0 in
    counts_link g.O.Link.link g.O.Disk.disk _ _ (g.met.O.Outside.link_keeps _ _ moved) (g.met.O.Link.link_goes _ _ moved)

pub returns-in-End-clause-turned : goal.returns-in-End-clause-turned
returns-in-End-clause-turned g c h st few =
    let x = c.args.wallet in
    let y = c.take.new.k in
    let a = c.args.allowance.now in
    let b : Bounds = bounds_of a x.book.limits in
    let up : LinkView = g.U.Link.link c.args.up.now in
    let keeps = g.met.O.Outside.link_keeps _ _ c.take.ensures.moved.0 in
    let goes = g.met.O.Link.link_goes _ _ c.take.ensures.moved.0 in
    let rests = c.take.ensures.moved.1 in
    end_turns g.O.Link.link g.O.Disk.disk g.met.O.Outside.sent_aside b x y h c.args.paid.now up keeps goes rests st few c.args.heads.now c.take.follows.lender-at-none c.take.result c.take.follows.holds-at-none c.in-End.is

pub returns-in-Fault-clause-causes : goal.returns-in-Fault-clause-causes
returns-in-Fault-clause-causes g c =
    let moved = c.take.ensures.moved.0 in
    counts_link g.O.Link.link g.O.Disk.disk _ _ (g.met.O.Outside.link_keeps _ _ moved) (g.met.O.Link.link_goes _ _ moved)

pub returns-in-Fault-clause-turned : goal.returns-in-Fault-clause-turned
returns-in-Fault-clause-turned g c h st few =
    let x = c.args.wallet in
    let y = c.take.new.k in
    let a = c.args.allowance.now in
    let b : Bounds = bounds_of a x.book.limits in
    let up : LinkView = g.U.Link.link c.args.up.now in
    let keeps = g.met.O.Outside.link_keeps _ _ c.take.ensures.moved.0 in
    let goes = g.met.O.Link.link_goes _ _ c.take.ensures.moved.0 in
    let rests = c.take.ensures.moved.1 in
    fault_turns g.O.Link.link g.O.Disk.disk g.met.O.Outside.sent_aside b x y h c.args.paid.now up keeps goes rests st few c.args.heads.now c.take.follows.lender-at-none c.take.result c.take.follows.holds-at-none c.in-Fault.is
