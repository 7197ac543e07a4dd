use Rattle.std.proofs.Common.{refl, ◌∙◌}
use Rattle.house_core.specs.Bench.{limits_of, state_of}
use Rattle.link_turns.proofs.CauseLemmas.{counts_none, counts_then, rose_then}
use Rattle.house_serving.proofs.HouseLinkLemmas.{house_starts, house_goes_on, house_ends, house_halts}
use Rattle.house_serving.proofs.links.serve_turns.Goals as goal

pub turns-init : goal.turns-init
turns-init g c = record {
  stands = c.requires.stands;
  counts = counts_none g.O.Link.link g.O.Disk.disk c.args.house.journal.disk;
  limits = refl;
  serving = λ h st. house_starts g.O.Link.link g.O.Disk.disk g.T.Trade.trade c.args.house h c.args.reader.now g.met.O.Outside.sent_aside (g.met.O.Disk.is_disk _) c.requires.empty st;
}

pub turns-preserved : goal.turns-preserved
turns-preserved g c = record {
  stands = c.in-Ok.ensures.stands c.in-GoOn.is;
  counts = counts_then g.O.Link.link g.O.Disk.disk _ _ _ c.turns.invariant.counts c.in-Ok.ensures.causes;
  limits = c.in-Ok.ensures.limits ∙ c.turns.invariant.limits;
  serving = λ h st. house_goes_on g.O.Link.link g.O.Disk.disk g.T.Trade.trade (limits_of c.args.house.bench) c.args.house.journal.disk (state_of h c.args.house.bench) c.turns.house _ c.turns.reader c.take_turn.new.reader g.met.O.Outside.sent_aside
      c.turns.invariant.limits (c.turns.invariant.serving h st) (rw c.in-GoOn.is at c.in-Ok.ensures.turned);
}

pub returns-in_default : goal.returns-in_default
returns-in_default g c = record {
  causes = counts_then g.O.Link.link g.O.Disk.disk _ _ _ c.turns.invariant.counts c.in-Ok.ensures.causes;
  limits = c.in-Ok.ensures.limits ∙ c.turns.invariant.limits;
  ended = λ h st. house_ends g.O.Link.link g.O.Disk.disk g.T.Trade.trade (limits_of c.args.house.bench) c.args.house.journal.disk (state_of h c.args.house.bench) c.turns.house _ c.turns.reader c.take_turn.new.reader _ g.met.O.Outside.sent_aside
      c.turns.invariant.limits c.in_default.not-GoOn (c.turns.invariant.serving h st) c.in-Ok.ensures.turned;
}

pub returns-in-Err-clause-causes : goal.returns-in-Err-clause-causes
returns-in-Err-clause-causes g c = rose_then g.O.Link.link g.O.Disk.disk _ _ _ c.turns.invariant.counts c.in-Err.ensures.causes

pub returns-in-Err-clause-ended : goal.returns-in-Err-clause-ended
returns-in-Err-clause-ended g c h st =
    house_halts g.O.Link.link g.O.Disk.disk g.T.Trade.trade (limits_of c.args.house.bench) c.args.house.journal.disk (state_of h c.args.house.bench) c.turns.house c.turns.reader c.take_turn.new.reader _ g.met.O.Outside.sent_aside
    c.turns.invariant.limits (c.turns.invariant.serving h st) c.in-Err.ensures.turned
