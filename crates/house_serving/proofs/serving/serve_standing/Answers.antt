use Rattle.std.proofs.Common.{List}
use Rattle.millicent_http.specs.Steps.{Did}
use Rattle.millicent_http.specs.Courses.{HadLink}
use Rattle.house_core.specs.Bench.{limits_of}
use Rattle.house_core.specs.Tallies.{ToldState, ToldStep}
use Rattle.link_turns.specs.Turns.{Ended}
use Rattle.link_turns.proofs.LinksLemmas.{had_link}
use Rattle.house_serving.proofs.CountsLemmas.{counts_so}
use Rattle.house_serving.proofs.serving.serve_standing.Goals as goal

pub returns-clause-course : goal.returns-clause-course
returns-clause-course g c =
    let limits = limits_of c.args.bench.now in
    let before = g.K.Link.link c.args.k.now in
    let served = g.K.Link.link c.serve_turns.new.k in
    let after = g.K.Link.link c.end_link.new.self in
    counts_so g.T.Trade.trade (λ (steps : List (Did ToldState)) (s : ToldState). Ended (ToldStep limits) c.args.clock.now c.serve_turns.result steps s before served)
    (λ (steps : List (Did ToldState)) (s : ToldState). HadLink (ToldStep limits) c.args.clock.now steps s before after) c.args.bench.now c.serve_turns.new.bench
    (λ (steps : List (Did ToldState)) (s : ToldState). had_link (ToldStep limits) c.args.clock.now c.serve_turns.result steps s before served after c.end_link.ensures.ended) c.serve_turns.ensures.ended
