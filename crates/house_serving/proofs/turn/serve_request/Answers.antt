use Rattle.std.proofs.Common.{Bool, false, [], ◌∷◌, refl, subst, ap, ◌∙◌, List, ℕ}
use Rattle.millicent_http.specs.Steps.{Did}
use Rattle.ledger_model.specs.Answer.{answer}
use Rattle.millicent_http.specs.Items.{request}
use Rattle.house_core.specs.Bench.{limits_of, state_of, tally_of}
use Rattle.house_core.specs.Session.{State, raised, said_reply}
use Rattle.house_core.specs.Tallies.{Told, ToldState, ToldStep, told_item, tallied}
use Rattle.link_turns.specs.Turns.{Sent}
use Rattle.house_serving.specs.Counting.{told_state}
use Rattle.link_turns.proofs.ItemLemmas.{item_answered}
use Rattle.house_serving.proofs.SaidLemmas.{says_gives, says_told}
use Rattle.house_serving.proofs.turn.serve_request.Goals as goal

pub returns-clause-answered : goal.returns-clause-answered
returns-clause-answered g c h last house =
    let limits = limits_of c.args.bench.now in
    let q = c.args.q.now in
    let s : State = state_of h c.args.bench.now in
    let reading = c.read_clock-reading.result in
    let came = c.answer-said.ensures.went h house in
    let t : State = state_of came.history c.answer-said.new.self in
    let reply : List ℕ = said_reply t q c.answer-said.result in
    let told : Told = told_item limits (raised s reading) (request q false) t in
    let after : ToldState = record { state = t; told_last = told } in
    let step : Did ToldState = record { sent = c.send.ensures.sent.0; after = after } in
    record {
      steps = step ∷ [];
      did = (
        step,
        refl,
        λ (closes : Bool).
            item_answered (ToldStep limits) c.args.clock.now (request q closes) c.args.after c.send.result (told_state last h c.args.bench.now) after (g.K.Link.link c.args.k.now) (g.K.Link.link c.read_clock-reading.new.k) (g.K.Link.link c.send.new.k) reading reply c.send.ensures.sent.0
            c.read_clock-reading.ensures.read c.read_clock-reading.ensures.rest
            (record {
              step = says_gives (raised s reading) t q (answer (raised s reading).history (raised s reading).time limits q) c.answer-said.result came.related;
              told' = refl;
            })
            (subst (λ (l : List ℕ). Sent c.args.after l c.send.result c.send.ensures.sent.0 (g.K.Link.link c.read_clock-reading.new.k) (g.K.Link.link c.send.new.k)) (c.reply.ensures came.history came.house) c.send.ensures.sent.1),
      );
      history = came.history;
      house = came.house;
      state = refl;
      tally = λ within.
          c.answer-said.ensures.tally h house within
          ∙ ap (λ (w : Told). tallied (tally_of c.args.bench.now) (w ∷ [])) (says_told (raised s reading) t (answer (raised s reading).history (raised s reading).time limits q) c.answer-said.result came.related);
      within = c.answer-said.ensures.within;
    }
