use Rattle.std.proofs.Common.{◌≡◌, ◌∙◌, Err}
use Rattle.mc_requests.specs.Requests.{asked_of}
use Rattle.mc_records.specs.Entry.{Accept}
use Rattle.slow_ledger.specs.Slow.{offer_of}
use Rattle.slow_ledger.proofs.TableSteps.{evaluates_along, stopped_evaluates, to_offer, to_change, taken_ok, taken_full, after_offer, after_change}
use Rattle.slow_ledger.proofs.table.taken.Goals as goal

pub returns-in-Err : goal.returns-in-Err
returns-in-Err c =
    let is : c.get-value.result ≡ c.args.s.now.piece.value = cc in
    evaluates_along (Err c.in-Err.stopped) _ _
    (to_offer c.args.h.now c.args.time c.args.limits (asked_of c.args.q.now) c.args.s.now c.args.sign.now c.get-value.result is)
    (stopped_evaluates c.in-Err.stopped offer_of _ (after_offer c.args.h.now c.args.time c.args.limits (asked_of c.args.q.now) c.args.s.now c.args.sign.now) c.in-Err.ensures.offer)

pub returns-in-Err-change_for : goal.returns-in-Err-change_for
returns-in-Err-change_for c =
    let is : c.get-value.result ≡ c.args.s.now.piece.value = cc in
    let o = offer_of c.in-Ok.offered in
    evaluates_along (Err c.in-Err-change_for.stopped) _ _
    (to_change c.args.h.now c.args.time c.args.limits (asked_of c.args.q.now) c.args.s.now c.args.sign.now c.get-value.result o is c.in-Ok.ensures.offer)
    (stopped_evaluates c.in-Err-change_for.stopped (λ x. x) _ (after_change c.args.h.now c.args.time c.args.limits (asked_of c.args.q.now) c.args.s.now c.args.sign.now o) c.in-Err-change_for.ensures)

pub returns-in-Ok-fitted : goal.returns-in-Ok-fitted
returns-in-Ok-fitted c =
    let is : c.get-value.result ≡ c.args.s.now.piece.value = cc in
    let o = offer_of c.in-Ok.offered in
    let entry = Accept c.args.time c.text.result.now c.args.q.now.target.now c.args.sign.now o.price c.in-Ok-change_for.change o.deed in
    taken_ok c.args.h.now c.args.time c.args.limits (asked_of c.args.q.now) c.args.s.now c.args.sign.now c.get-value.result o c.in-Ok-change_for.change c.text.result.now
    c.in-Ok-accept_payload.payload.items is c.in-Ok.ensures.offer c.in-Ok-change_for.ensures c.text.ensures.text
    c.in-Ok-accept_payload.ensures.fits c.in-Ok-accept_payload.ensures.payload
    (c.in-Ok-fitted.ensures entry (c.deref.ensures.value ∙ c.in-Ok-accept_payload.ensures.payload))

pub returns-in-Err-fitted : goal.returns-in-Err-fitted
returns-in-Err-fitted c =
    let is : c.get-value.result ≡ c.args.s.now.piece.value = cc in
    let o = offer_of c.in-Ok.offered in
    let entry = Accept c.args.time c.text.result.now c.args.q.now.target.now c.args.sign.now o.price c.in-Ok-change_for.change o.deed in
    taken_full c.args.h.now c.args.time c.args.limits (asked_of c.args.q.now) c.args.s.now c.args.sign.now c.get-value.result o c.in-Ok-change_for.change c.text.result.now
    c.in-Err-fitted.stopped is c.in-Ok.ensures.offer c.in-Ok-change_for.ensures c.text.ensures.text
    (c.in-Err-fitted.ensures entry (c.deref.ensures.value ∙ c.in-Ok-accept_payload.ensures.payload))
