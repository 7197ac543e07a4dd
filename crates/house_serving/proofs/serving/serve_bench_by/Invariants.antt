use Rattle.std.proofs.Common.{◌-◌, ◌≡◌, ◌≤◌}
use Rattle.house_core.specs.Bench.{limits_of, windows_of}
use Rattle.house_state.specs.LiveWindows.{AreUsed}
use Rattle.house_serving.proofs.LinksLemmas.{Linked}
use Rattle.house_serving.proofs.serving.serve_bench_by.Given as goal

abbrev pub invariant-links : goal.invariant-links
invariant-links g l = record {
  few : l.served ≤ l.fn.links;
  moved : g.K.Link.link_moved l.fn.k l.k;
  limits : limits_of l.bench ≡ limits_of l.fn.bench;
  used : AreUsed (windows_of l.fn.bench) → AreUsed (windows_of l.bench);
  linked : Linked g.T.Trade.trade (limits_of l.fn.bench) l.fn.clock l.served l.fn.bench (g.K.Link.link l.fn.k) l.bench (g.K.Link.link l.k);
}

abbrev pub decreases-links : goal.decreases-links
decreases-links g l = l.links - l.served
