use Rattle.std.proofs.Common.{arith}
use Rattle.slow_ledger.proofs.SlowLaws.{price_more}
use Rattle.slow_ledger.proofs.filters.slow_price.Goals as goal

pub loop-n-preserved : goal.loop-n-preserved
loop-n-preserved c = record {
  price = price_more c.args.h.now c.loop-n.n c.args.target.now c.loop-n.found c.price_with-found.result (omega arith) c.loop-n.invariant.price c.price_with-found.ensures.price;
  target = c.price_with-found.ensures.target c.loop-n.invariant.target;
}
