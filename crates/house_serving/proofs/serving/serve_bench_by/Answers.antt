use Rattle.std.proofs.Common.{List, Ok, Err, refl, arith, ◌∙◌, ◌+◌}
use Rattle.house_core.specs.Bench.{limits_of}
use Rattle.house_serving.specs.declared.serving.BenchEnd.TheVariants as ends
use Rattle.millicent_http.specs.Steps.{Did}
use Rattle.house_core.specs.Tallies.{Repeated, ToldState, ToldStep}
use Rattle.house_serving.specs.Served.{Served}
use Rattle.house_serving.proofs.CountsLemmas.{counts_nowhere, counts_served}
use Rattle.house_serving.proofs.LinksLemmas.{linked_none, linked_more, linked_all, linked_over, linked_broke}
use Rattle.house_serving.proofs.serving.serve_bench_by.Goals as goal

pub links-init : goal.links-init
links-init g c = record {
  few = omega arith;
  moved = g.met.K.Link.link_stays c.args.k.now;
  limits = refl;
  used = λ used. used;
  linked = linked_none g.T.Trade.trade (limits_of c.args.bench.now) c.args.clock.now c.args.bench.now (g.K.Link.link c.args.k.now);
}

pub links-preserved : goal.links-preserved
links-preserved g c =
    let taken = rw c.in-Ok-true.field-0-test at c.in-Ok-true.ensures.taken in
    record {
      few = omega (arith, c.links-test.true);
      moved = g.met.K.Link.link_goes_on c.args.k.now c.next_link.new.self c.serve_standing.new.k (g.met.K.Link.link_goes_on c.args.k.now c.links.k c.next_link.new.self c.links.invariant.moved c.next_link.ensures.moved) c.serve_standing.ensures.moved;
      limits = c.serve_standing.ensures.limits ∙ c.links.invariant.limits;
      used = λ used. c.serve_standing.ensures.used (c.links.invariant.used used);
      linked = linked_more g.T.Trade.trade (limits_of c.args.bench.now) (limits_of c.links.bench) c.args.clock.now c.links.served (c.links.served + 1) c.args.bench.now c.links.bench c.serve_standing.new.bench
          (g.K.Link.link c.args.k.now) (g.K.Link.link c.links.k) (g.K.Link.link c.next_link.new.self) (g.K.Link.link c.serve_standing.new.k) c.links.invariant.limits (omega arith) taken c.links.invariant.linked c.serve_standing.ensures.course;
    }

pub returns-in-Ok-false-clause-tallied : goal.returns-in-Ok-false-clause-tallied
returns-in-Ok-false-clause-tallied g c =
    let over = rw c.in-Ok-false.field-0-test at c.in-Ok-false.ensures.taken in
    linked_over g.T.Trade.trade (limits_of c.args.bench.now) c.args.clock.now c.args.links c.links.served c.args.bench.now c.links.bench
    (g.K.Link.link c.args.k.now) (g.K.Link.link c.links.k) (g.K.Link.link c.next_link.new.self) c.links-test.true over c.links.invariant.linked

pub returns-in-Err-clause-tallied : goal.returns-in-Err-clause-tallied
returns-in-Err-clause-tallied g c =
    linked_broke g.T.Trade.trade (limits_of c.args.bench.now) c.args.clock.now c.args.links c.links.served c.args.bench.now c.links.bench
    (g.K.Link.link c.args.k.now) (g.K.Link.link c.links.k) (g.K.Link.link c.next_link.new.self) c.links-test.true
    (record { same = c.in-Err.ensures.failed; rose = c.in-Err.ensures.cause.rose }) c.links.invariant.linked

pub returns-clause-tallied : goal.returns-clause-tallied
returns-clause-tallied g c =
    linked_all g.T.Trade.trade (limits_of c.args.bench.now) c.args.clock.now c.args.links c.links.served c.args.bench.now c.links.bench
    (g.K.Link.link c.args.k.now) (g.K.Link.link c.links.k) (omega (arith, c.links-test.false, c.links.invariant.few)) c.links.invariant.linked

pub returns-in_default-clause-tallied : goal.returns-in_default-clause-tallied
returns-in_default-clause-tallied g c =
    let v = g.K.Link.link c.args.k.now in
    counts_nowhere g.T.Trade.trade (λ (steps : List (Did ToldState)) (s : ToldState). Served (ToldStep (limits_of c.args.bench.now)) c.args.clock.now c.args.links (Err ends.NoMemory) steps s v v) c.args.bench.now
    (λ s. (refl, refl))

pub serve_standing-requires-clause-house : goal.serve_standing-requires-clause-house
serve_standing-requires-clause-house g c =
    let came = c.links.invariant.linked c.requires.house.0 Repeated c.requires.house.1 in
    (came.history, came.house)

-- ---- without what was told

pub returns-in-Ok-false-clause-served : goal.returns-in-Ok-false-clause-served
returns-in-Ok-false-clause-served g c =
    counts_served g.T.Trade.trade (limits_of c.args.bench.now) c.args.clock.now c.args.links (Ok c.links.served) c.args.bench.now c.links.bench
    (g.K.Link.link c.args.k.now) (g.K.Link.link c.next_link.new.self) (returns-in-Ok-false-clause-tallied g c)

pub returns-in-Err-clause-served : goal.returns-in-Err-clause-served
returns-in-Err-clause-served g c =
    counts_served g.T.Trade.trade (limits_of c.args.bench.now) c.args.clock.now c.args.links (Err ends.Link) c.args.bench.now c.links.bench
    (g.K.Link.link c.args.k.now) (g.K.Link.link c.next_link.new.self) (returns-in-Err-clause-tallied g c)

pub returns-clause-served : goal.returns-clause-served
returns-clause-served g c =
    counts_served g.T.Trade.trade (limits_of c.args.bench.now) c.args.clock.now c.args.links (Ok c.links.served) c.args.bench.now c.links.bench
    (g.K.Link.link c.args.k.now) (g.K.Link.link c.links.k) (returns-clause-tallied g c)
