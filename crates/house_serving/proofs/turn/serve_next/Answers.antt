use Rattle.std.proofs.Common.{List}
use Rattle.millicent_http.specs.Steps.{Did}
use Rattle.house_core.specs.Bench.{limits_of}
use Rattle.house_core.specs.Tallies.{ToldState, ToldStep}
use Rattle.house_serving.specs.Counting.{told_state}
use Rattle.link_turns.specs.declared.turn.Turn.TheVariants.{End, NotReceived}
use Rattle.link_turns.specs.Turns.{Turned}
use Rattle.house_serving.proofs.CountsLemmas.{counts_nowhere}
use Rattle.link_turns.proofs.TurnLemmas.{head_turned, refused_turned, end_turned, fault_turned}
use Rattle.house_serving.proofs.turn.serve_next.Goals as goal

pub returns-in-Head-clause-turned : goal.returns-in-Head-clause-turned
returns-in-Head-clause-turned g c h told house =
    let came = (rw c.of.ensures at c.serve_request.ensures.answered) h told house in
    record {
      steps = came.steps;
      did = head_turned (ToldStep (limits_of c.args.bench.now)) c.args.clock.now c.serve_request.result came.did.0 came.steps (told_state told h c.args.bench.now) c.args.reader.now (g.K.Link.link c.args.k.now) (g.K.Link.link c.take.new.k)
          c.take.result c.in-Head.q c.in-Head.after c.take.follows.lender-at-none (g.K.Link.link c.serve_request.new.k)
          c.take.follows.holds-at-none c.in-Head.is came.did.1 came.did.2;
      history = came.history;
      house = came.house;
      state = came.state;
      tally = came.tally;
      within = came.within;
    }

pub returns-in-Refused-clause-turned : goal.returns-in-Refused-clause-turned
returns-in-Refused-clause-turned g c h told house =
    let came = c.serve_refused.ensures.answered h told house in
    record {
      steps = came.steps;
      did = refused_turned (ToldStep (limits_of c.args.bench.now)) c.args.clock.now c.serve_refused.result came.did.0 came.steps (told_state told h c.args.bench.now) c.args.reader.now (g.K.Link.link c.args.k.now) (g.K.Link.link c.take.new.k)
          c.take.result c.in-Refused.head c.in-Refused.after c.take.follows.lender-at-none (g.K.Link.link c.serve_refused.new.k)
          c.take.follows.holds-at-none c.in-Refused.is came.did.1 came.did.2;
      history = came.history;
      house = came.house;
      state = came.state;
      tally = came.tally;
      within = came.within;
    }

pub returns-in-End-clause-turned : goal.returns-in-End-clause-turned
returns-in-End-clause-turned g c =
    let limits = limits_of c.args.bench.now in
    let old = c.args.reader.now in
    let new = c.take.follows.lender-at-none in
    let before = g.K.Link.link c.args.k.now in
    let link = g.K.Link.link c.take.new.k in
    counts_nowhere g.T.Trade.trade (λ (steps : List (Did ToldState)) (s : ToldState). Turned (ToldStep limits) c.args.clock.now End steps s old before new link) c.args.bench.now
    (λ (s : ToldState). end_turned (ToldStep limits) c.args.clock.now s old before c.take.result new link c.take.follows.holds-at-none c.in-End.is)

pub returns-in-Fault-clause-turned : goal.returns-in-Fault-clause-turned
returns-in-Fault-clause-turned g c =
    let limits = limits_of c.args.bench.now in
    let old = c.args.reader.now in
    let new = c.take.follows.lender-at-none in
    let before = g.K.Link.link c.args.k.now in
    let link = g.K.Link.link c.take.new.k in
    counts_nowhere g.T.Trade.trade (λ (steps : List (Did ToldState)) (s : ToldState). Turned (ToldStep limits) c.args.clock.now NotReceived steps s old before new link) c.args.bench.now
    (λ (s : ToldState). fault_turned (ToldStep limits) c.args.clock.now s old before c.take.result new link c.take.follows.holds-at-none c.in-Fault.is)
