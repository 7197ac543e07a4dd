use Rattle.std.proofs.Common.{◌-◌, ◌≡◌}
use Rattle.house_core.specs.Bench.{limits_of, windows_of}
use Rattle.house_state.specs.LiveWindows.{AreUsed}
use Rattle.house_serving.proofs.TurnsLemmas.{Serving}
use Rattle.house_serving.proofs.serving.serve_turns.Given as goal

abbrev pub invariant-turns : goal.invariant-turns
invariant-turns g l = record {
  moved : g.K.Link.link_moved l.fn.k l.k;
  limits : limits_of l.bench ≡ limits_of l.fn.bench;
  used : AreUsed (windows_of l.fn.bench) → AreUsed (windows_of l.bench);
  serving : Serving g.T.Trade.trade (limits_of l.fn.bench) l.fn.clock l.fn.bench (g.K.Link.link l.fn.k) l.bench l.reader (g.K.Link.link l.k);
}

abbrev pub decreases-turns : goal.decreases-turns
decreases-turns g l = 1000 - l.reader.given
