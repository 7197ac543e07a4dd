use Rattle.std.proofs.Common.{◌≡◌, List, ℕ, sym, ap, subst, Result, Ok, Err}
use Rattle.std.specs.Prelude.{IsTrue}
use Rattle.mc_outside.specs.LinkView.{LinkView}
use Rattle.mc_requests.specs.declared.refusal.Refusal.{Refusal}
use Rattle.mc_requests.specs.declared.refusal.Refusal.TheVariants.{NotPlain}
use Rattle.mc_requests.specs.Requests.{Asked, asked_of}
use Rattle.wallet_model.specs.Requests.{kept_get}
use Rattle.wallet_model.specs.Asks.{chosen}
use Rattle.link_turns.proofs.CauseLemmas.{counts_link, causes_then}
use Rattle.wallet_proxy.specs.Proxy.{ProxyState, Bounds, Payment, payment_by, payment_for, within_budget, PaysBy, DoubtsBy}
use Rattle.wallet_proxy.specs.Links.{Answers, bounds_of, now, state_at}
use Rattle.wallet_proxy.proofs.ItemLemmas.{RaisedBy, request_answered, payment_plain, payment_not}
use Rattle.wallet_proxy.proofs.PayLemmas.{pay_not}
use Rattle.wallet_proxy.proofs.turn.answer_request.Goals as goal

pub returns-then-not-is_plain-clause-answered : goal.returns-then-not-is_plain-clause-answered
returns-then-not-is_plain-clause-answered g c h st few =
    let x = c.args.wallet in
    let y = c.raise_by_clock-reading.new.wallet in
    let z = c.refuse.result.0 in
    let q : Asked = asked_of c.args.q.now in
    let b : Bounds = bounds_of c.args.allowance.now x.book.limits in
    let up : LinkView = g.U.Link.link c.args.up.now in
    let t : ProxyState = state_at h (now y c.args.paid.now up) in
    let was : RaisedBy g.O.Link.link g.O.Disk.disk x y c.raise_by_clock-reading.result = record {
      keeps = g.met.O.Outside.link_keeps _ _ c.raise_by_clock-reading.ensures.moved;
      goes = g.met.O.Link.link_goes _ _ c.raise_by_clock-reading.ensures.moved;
      stands = c.raise_by_clock-reading.ensures.stands;
      time' = c.raise_by_clock-reading.ensures.time;
      rest = c.raise_by_clock-reading.ensures.rest;
      read = c.raise_by_clock-reading.ensures.read;
    } in
    let none : payment_for b t q ≡ Err NotPlain = payment_not b t q (sym c.if-not-is_plain.ensures) in
    request_answered g.O.Link.link g.O.Disk.disk g.met.O.Outside.sent_aside b x y c.raise_by_clock-reading.result h c.args.paid.now up was st few q c.args.after c.args.paid.now up (Ok c.refuse.result)
    (subst (λ (r : Result Payment Refusal). Answers g.O.Link.link g.O.Disk.disk b.budget (PaysBy b t q.target r) (DoubtsBy b t q.target r) c.args.after y.journal.disk t c.args.paid.now up (Ok c.refuse.result)) (sym none)
    (pay_not g.O.Link.link g.O.Disk.disk g.met.O.Outside.sent_aside c.args.after b h q.target y c.args.paid.now up (was.stands h st) few z c.refuse.result.1 NotPlain
    (record {
      is_link = g.met.O.Link.is_link y.journal.disk;
      standing = subst (λ (v : LinkView). IsTrue v.stands) (sym was.rest) c.requires.stands;
      keeps = g.met.O.Outside.link_keeps _ _ c.refuse.ensures.moved;
      goes = g.met.O.Link.link_goes _ _ c.refuse.ensures.moved;
      rests = c.refuse.ensures.rests;
    }) c.refuse.ensures.sent))

pub returns-clause-causes : goal.returns-clause-causes
returns-clause-causes g c =
    let moved = c.raise_by_clock-reading.ensures.moved in
    causes_then g.O.Link.link g.O.Disk.disk _ _ (λ r. r.0.journal.disk) c.pay.result (counts_link g.O.Link.link g.O.Disk.disk _ _ (g.met.O.Outside.link_keeps _ _ moved) (g.met.O.Link.link_goes _ _ moved)) c.pay.ensures.causes

pub returns-clause-answered : goal.returns-clause-answered
returns-clause-answered g c h st few =
    let x = c.args.wallet in
    let y = c.raise_by_clock-reading.new.wallet in
    let q : Asked = asked_of c.args.q.now in
    let a = c.args.allowance.now in
    let b : Bounds = bounds_of a x.book.limits in
    let paid : ℕ = c.args.paid.now in
    let up : LinkView = g.U.Link.link c.args.up.now in
    let t : ProxyState = state_at h (now y paid up) in
    let now_up : LinkView = g.U.Link.link c.pay.new.up in
    let was : RaisedBy g.O.Link.link g.O.Disk.disk x y c.raise_by_clock-reading.result = record {
      keeps = g.met.O.Outside.link_keeps _ _ c.raise_by_clock-reading.ensures.moved;
      goes = g.met.O.Link.link_goes _ _ c.raise_by_clock-reading.ensures.moved;
      stands = c.raise_by_clock-reading.ensures.stands;
      time' = c.raise_by_clock-reading.ensures.time;
      rest = c.raise_by_clock-reading.ensures.rest;
      read = c.raise_by_clock-reading.ensures.read;
    } in
    let paying : List ℕ → Result Payment Refusal = λ target. within_budget a.budget paid (payment_by (kept_get h a.vendor target) (chosen h y.book.time a.vendor a.limit)) in
    let is : c.in-Some.target ≡ q.target = c.in-Some.ensures.value in
    let same : bounds_of a y.book.limits ≡ b = ap (λ l. bounds_of a l) c.raise_by_clock-reading.ensures.limits in
    let plain : payment_for b t q ≡ paying q.target = payment_plain b t q (sym c.if-not-is_plain.ensures) in
    let did = c.pay.ensures.paid h (was.stands h st) few in
    let mine = subst (λ (k : Bounds). Answers g.O.Link.link g.O.Disk.disk a.budget (PaysBy k t q.target (paying q.target)) (DoubtsBy k t q.target (paying q.target)) c.args.after y.journal.disk t c.pay.new.paid now_up c.pay.result) same
    (subst (λ (l : List ℕ). Answers g.O.Link.link g.O.Disk.disk a.budget (PaysBy (bounds_of a y.book.limits) t l (paying l)) (DoubtsBy (bounds_of a y.book.limits) t l (paying l)) c.args.after y.journal.disk t c.pay.new.paid now_up c.pay.result) is did) in
    request_answered g.O.Link.link g.O.Disk.disk g.met.O.Outside.sent_aside b x y c.raise_by_clock-reading.result h paid up was st few q c.args.after c.pay.new.paid now_up c.pay.result
    (subst (λ (r : Result Payment Refusal). Answers g.O.Link.link g.O.Disk.disk b.budget (PaysBy b t q.target r) (DoubtsBy b t q.target r) c.args.after y.journal.disk t c.pay.new.paid now_up c.pay.result) (sym plain) mine)
