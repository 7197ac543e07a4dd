use Rattle.std.proofs.Common.{◌≡◌, arith, refl, ◌∙◌, Ok, Err}
use Rattle.mc_records.specs.Entry.{Accept}
use Rattle.mc_requests.specs.Requests.{asked_of}
use Rattle.ledger_model.specs.Lines.{Refuse}
use Rattle.ledger_model.specs.Stages.{fitted_by}
use Rattle.ledger_model.specs.Answer.{offer}
use Rattle.house_state.specs.HouseState.{tail_of}
use Rattle.house_state.specs.Views.{offer_of, entry_deed}
use Rattle.house_state.proofs.Tabled.{change_in, offered_at, no_change, fits}
use Rattle.house_state.proofs.evaluating.taken.Goals as goal

pub returns-in-Err-change-clause-lines : goal.returns-in-Err-change-clause-lines
returns-in-Err-change-clause-lines g c h st trade kind =
    let value : c.value-value.result ≡ c.args.scrip.now.piece.value = rw (c.value-value.ensures.value, c.piece.ensures) refl in
    let got : c.get.result ≡ c.args.scrip.now.piece.value = c.get.ensures.units ∙ value in
    let offered : Ok (offer_of c.in-Ok.offer) ≡ offer h c.args.state.now.time c.args.limits c.args.q.now.target.now c.args.scrip.now.piece.value =
    offered_at h c.args.state.now.time c.time.result c.args.limits c.args.limits c.args.q.now.target.now c.args.scrip.now.piece.value c.value-value.result (offer_of c.in-Ok.offer) c.time.ensures refl value
    (c.in-Ok.ensures.offer h trade kind) in
    let full : Err (Refuse c.in-Err-change.refusal) ≡ change_in c.args.state.now c.in-Ok.offer.price c.args.scrip.now.piece.value =
    rw (← c.own.ensures, ← c.time-2.ensures, ← got) c.in-Err-change.ensures.lines in
    no_change st c.args.limits c.requires.series (asked_of c.args.q.now) c.args.scrip.now c.args.spendable.sign (offer_of c.in-Ok.offer) (Refuse c.in-Err-change.refusal) offered full

pub returns-in-Ok-fitted-clause-ready : goal.returns-in-Ok-fitted-clause-ready
returns-in-Ok-fitted-clause-ready g c =
    let value : c.value-value.result ≡ c.args.scrip.now.piece.value = rw (c.value-value.ensures.value, c.piece.ensures) refl in
    let got : c.get.result ≡ c.args.scrip.now.piece.value = c.get.ensures.units ∙ value in
    record {
      secret = c.requires.secret;
      live = c.requires.live;
      fresh = c.requires.fresh;
      change = rw (← c.own.ensures, ← c.time-2.ensures, ← got) c.in-Ok-change.ensures.next;
      payload = c.accept_len-payload.ensures c.args.state.now.time c.in-Ok.offer.price;
      fits = omega (arith, c.in-Ok-fitted.ensures.room, c.requires.journal);
    }

pub returns-in-Ok-fitted-clause-lines : goal.returns-in-Ok-fitted-clause-lines
returns-in-Ok-fitted-clause-lines g c h st trade kind =
    let value : c.value-value.result ≡ c.args.scrip.now.piece.value = rw (c.value-value.ensures.value, c.piece.ensures) refl in
    let got : c.get.result ≡ c.args.scrip.now.piece.value = c.get.ensures.units ∙ value in
    let e = Accept c.args.state.now.time c.args.scrip.now.text c.args.q.now.target.now c.args.spendable.sign c.in-Ok.offer.price c.in-Ok-change.change (entry_deed c.in-Ok.offer.deed) in
    let offered : Ok (offer_of c.in-Ok.offer) ≡ offer h c.args.state.now.time c.args.limits c.args.q.now.target.now c.args.scrip.now.piece.value =
    offered_at h c.args.state.now.time c.time.result c.args.limits c.args.limits c.args.q.now.target.now c.args.scrip.now.piece.value c.value-value.result (offer_of c.in-Ok.offer) c.time.ensures refl value
    (c.in-Ok.ensures.offer h trade kind) in
    let changed : Ok c.in-Ok-change.change ≡ change_in c.args.state.now c.in-Ok.offer.price c.args.scrip.now.piece.value =
    rw (← c.own.ensures, ← c.time-2.ensures, ← got) c.in-Ok-change.ensures.lines in
    let is : Ok e ≡ fitted_by c.args.limits.journal c.args.state.now.size (tail_of c.args.state.now) e =
    c.in-Ok-fitted.ensures.lines e (c.accept_len-payload.ensures c.args.state.now.time c.in-Ok.offer.price) in
    fits st c.args.limits c.requires.series (asked_of c.args.q.now) c.args.scrip.now c.args.spendable.sign (offer_of c.in-Ok.offer) c.in-Ok-change.change (Ok e) offered changed is

pub returns-in-Err-fitted-clause-lines : goal.returns-in-Err-fitted-clause-lines
returns-in-Err-fitted-clause-lines g c h st trade kind =
    let value : c.value-value.result ≡ c.args.scrip.now.piece.value = rw (c.value-value.ensures.value, c.piece.ensures) refl in
    let got : c.get.result ≡ c.args.scrip.now.piece.value = c.get.ensures.units ∙ value in
    let e = Accept c.args.state.now.time c.args.scrip.now.text c.args.q.now.target.now c.args.spendable.sign c.in-Ok.offer.price c.in-Ok-change.change (entry_deed c.in-Ok.offer.deed) in
    let offered : Ok (offer_of c.in-Ok.offer) ≡ offer h c.args.state.now.time c.args.limits c.args.q.now.target.now c.args.scrip.now.piece.value =
    offered_at h c.args.state.now.time c.time.result c.args.limits c.args.limits c.args.q.now.target.now c.args.scrip.now.piece.value c.value-value.result (offer_of c.in-Ok.offer) c.time.ensures refl value
    (c.in-Ok.ensures.offer h trade kind) in
    let changed : Ok c.in-Ok-change.change ≡ change_in c.args.state.now c.in-Ok.offer.price c.args.scrip.now.piece.value =
    rw (← c.own.ensures, ← c.time-2.ensures, ← got) c.in-Ok-change.ensures.lines in
    let full : Err (Refuse c.in-Err-fitted.refusal) ≡ fitted_by c.args.limits.journal c.args.state.now.size (tail_of c.args.state.now) e =
    c.in-Err-fitted.ensures.lines e (c.accept_len-payload.ensures c.args.state.now.time c.in-Ok.offer.price) in
    fits st c.args.limits c.requires.series (asked_of c.args.q.now) c.args.scrip.now c.args.spendable.sign (offer_of c.in-Ok.offer) c.in-Ok-change.change (Err (Refuse c.in-Err-fitted.refusal)) offered changed full
