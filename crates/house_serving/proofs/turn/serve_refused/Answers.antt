use Rattle.std.proofs.Common.{Bool, [], ◌∷◌, refl, ap, ◌∙◌}
use Rattle.millicent_http.specs.Steps.{Did}
use Rattle.ledger_model.specs.Replies.{head_refusal}
use Rattle.millicent_http.specs.HeadRefusals.{as_refusal}
use Rattle.millicent_http.specs.Items.{refused}
use Rattle.house_core.specs.Bench.{limits_of, state_of}
use Rattle.house_core.specs.Session.{State}
use Rattle.house_core.specs.Tallies.{RefusedBy, ToldState, ToldStep}
use Rattle.house_serving.specs.Counting.{told_state}
use Rattle.link_turns.proofs.ItemLemmas.{item_answered}
use Rattle.house_serving.proofs.turn.serve_refused.Goals as goal

pub returns-clause-answered : goal.returns-clause-answered
returns-clause-answered g c h last house =
    let reading = c.read_clock-reading.result in
    let came = c.refuse_head.ensures.went h house in
    let t : State = state_of came.history c.refuse_head.new.self in
    let after : ToldState = record { state = t; told_last = RefusedBy (as_refusal c.args.head) } in
    let step : Did ToldState = record { sent = c.send.ensures.sent.0; after = after } in
    record {
      steps = step ∷ [];
      did = (
        step,
        refl,
        λ (closes : Bool).
            item_answered (ToldStep (limits_of c.args.bench.now)) c.args.clock.now (refused (as_refusal c.args.head) closes) c.args.after c.send.result (told_state last h c.args.bench.now) after (g.K.Link.link c.args.k.now) (g.K.Link.link c.read_clock-reading.new.k) (g.K.Link.link c.send.new.k) reading
            c.refuse_head.result c.send.ensures.sent.0 c.read_clock-reading.ensures.read c.read_clock-reading.ensures.rest
            (record {
              step = (c.refuse_head.ensures.reply ∙ ap (λ (u : State). head_refusal u.time (as_refusal c.args.head)) came.related, came.related);
              told' = refl;
            })
            c.send.ensures.sent.1,
      );
      history = came.history;
      house = came.house;
      state = refl;
      tally = c.refuse_head.ensures.tally;
      within = c.refuse_head.ensures.within;
    }
