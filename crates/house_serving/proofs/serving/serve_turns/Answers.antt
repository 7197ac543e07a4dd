use Rattle.std.proofs.Common.{refl, arith, ◌∙◌}
use Rattle.house_core.specs.Bench.{limits_of}
use Rattle.house_serving.proofs.TurnsLemmas.{turns_start, turns_go_on, turns_end, turns_stand, turns_grow}
use Rattle.house_serving.proofs.serving.serve_turns.Goals as goal

pub turns-init : goal.turns-init
turns-init g c = record {
  moved = g.met.K.Link.link_stays c.args.k.now;
  limits = refl;
  used = λ used. used;
  serving = turns_start g.T.Trade.trade (limits_of c.args.bench.now) c.args.clock.now c.args.bench.now c.args.reader.now (g.K.Link.link c.args.k.now) c.requires.empty;
}

pub turns-preserved : goal.turns-preserved
turns-preserved g c = record {
  moved = g.met.K.Link.link_goes_on c.args.k.now c.turns.k c.serve_next.new.k c.turns.invariant.moved c.serve_next.ensures.moved;
  limits = c.serve_next.ensures.limits ∙ c.turns.invariant.limits;
  used = λ used. c.serve_next.ensures.used (c.turns.invariant.used used);
  serving = turns_go_on g.T.Trade.trade (limits_of c.args.bench.now) (limits_of c.turns.bench) c.args.clock.now c.args.bench.now c.turns.bench c.serve_next.new.bench
      (g.K.Link.link c.args.k.now) c.turns.reader c.serve_next.new.reader (g.K.Link.link c.turns.k) (g.K.Link.link c.serve_next.new.k) c.turns.invariant.limits c.turns.invariant.serving c.in-GoOn.ensures.turned;
}

pub serve_next-requires : goal.serve_next-requires
serve_next-requires g c = record {
  stands = turns_stand g.T.Trade.trade (limits_of c.args.bench.now) c.args.clock.now c.args.bench.now c.turns.bench (g.K.Link.link c.args.k.now) c.turns.reader (g.K.Link.link c.turns.k)
      c.requires.house.0 c.requires.house.1 c.turns.invariant.serving c.requires.stands;
}

pub turns-smaller : goal.turns-smaller
turns-smaller g c =
    let grows = turns_grow g.T.Trade.trade (limits_of c.args.bench.now) (limits_of c.turns.bench) c.args.clock.now c.args.bench.now c.turns.bench c.serve_next.new.bench
    (g.K.Link.link c.args.k.now) c.turns.reader c.serve_next.new.reader (g.K.Link.link c.turns.k) (g.K.Link.link c.serve_next.new.k) c.requires.house.0 c.requires.house.1 c.turns.invariant.serving c.in-GoOn.ensures.turned in
    omega (arith, grows.0, grows.1)

pub returns-in_default : goal.returns-in_default
returns-in_default g c = record {
  moved = g.met.K.Link.link_goes_on c.args.k.now c.turns.k c.serve_next.new.k c.turns.invariant.moved c.serve_next.ensures.moved;
  limits = c.serve_next.ensures.limits ∙ c.turns.invariant.limits;
  used = λ used. c.serve_next.ensures.used (c.turns.invariant.used used);
  ended = turns_end g.T.Trade.trade (limits_of c.args.bench.now) (limits_of c.turns.bench) c.args.clock.now c.serve_next.result c.args.bench.now c.turns.bench c.serve_next.new.bench
      (g.K.Link.link c.args.k.now) c.turns.reader c.serve_next.new.reader (g.K.Link.link c.turns.k) (g.K.Link.link c.serve_next.new.k) c.turns.invariant.limits c.in_default.not-GoOn c.turns.invariant.serving c.serve_next.ensures.turned;
}
