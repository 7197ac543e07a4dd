use Rattle.std.proofs.Common.{◌≡◌}
use Rattle.house_core.specs.Bench.{limits_of}
use Rattle.house_serving.proofs.ReplyingLemmas.{Replying}
use Rattle.house_serving.proofs.whole.append_replies.Given as goal

abbrev pub invariant-loop : goal.invariant-loop
invariant-loop g l = record {
  limits : limits_of l.bench ≡ limits_of l.fn.bench;
  replying : Replying g.T.Trade.trade (limits_of l.fn.bench) l.moment l.link l.counter l.fn.bench l.rest l.out.items l.bench;
}
