use Rattle.std.proofs.Common.{◌≡◌, List, ℕ, ◌++◌, sym, ap, ◌∙◌, subst}
use Rattle.mc_requests.specs.Requests.{Asked, asked_of}
use Rattle.ledger_model.specs.Answer.{answer}
use Rattle.millicent_http.specs.Items.{request}
use Rattle.millicent_http.specs.Takes.{item_of}
use Rattle.millicent_http.specs.declared.item.ItemRef.{ItemRef}
use Rattle.house_core.specs.Bench.{Refines, limits_of, state_of}
use Rattle.house_core.specs.Session.{State, Step, raised, said_reply}
use Rattle.house_serving.proofs.SaidLemmas.{says_gives, on_ok}
use Rattle.house_serving.proofs.ReplyingLemmas.{Stepped}
use Rattle.house_serving.proofs.whole.reply_to.Goals as goal

pub returns-in-Request-clause-stepped : goal.returns-in-Request-clause-stepped
returns-in-Request-clause-stepped g c =
    let limits = limits_of c.args.bench.now in
    let q = c.of-q.result in
    let old : List ℕ = c.args.out.now.items in
    let new : List ℕ = c.append_to.new.out.items in
    on_ok c.append_to.result (new ≡ old ++ c.reply.result)
    (Refines g.T.Trade.trade (λ (s t : State). Stepped limits c.args.moment (item_of c.args.item.now) old new s t) c.args.bench.now c.answer-said.new.self)
    (λ (e : new ≡ old ++ c.reply.result) h house.
    let s = state_of h c.args.bench.now in
    let came = c.answer-said.ensures.went h house in
    let t = state_of came.history c.answer-said.new.self in
    let reply : List ℕ = said_reply t q c.answer-said.result in
    let step : Step limits s c.args.moment (request (asked_of c.in-Request.q) c.in-Request.field-1) reply t =
    subst (λ (p : Asked). Step limits s c.args.moment (request p c.in-Request.field-1) reply t) c.of-q.ensures
    (says_gives (raised s c.args.moment) t q (answer (raised s c.args.moment).history (raised s c.args.moment).time limits q) c.answer-said.result came.related) in
    record {
      history = came.history;
      house = came.house;
      related = (
        reply,
        subst (λ (i : ItemRef). Step limits s c.args.moment (item_of i) reply t) (sym c.in-Request.is) step,
        e ∙ ap (λ (l : List ℕ). old ++ l) (c.reply.ensures came.history came.house),
      );
    })
    c.append_to.ensures.ok
