use Rattle.std.proofs.Common.{arith, ◌+◌, drop, true, false}
use Rattle.std.specs.List.{list_any}
use Rattle.ledger_model.specs.Goods.{is_goods_of}
use Rattle.slow_ledger.proofs.CountLaws.{passes_more}
use Rattle.slow_ledger.proofs.counts.has_goods_after.Goals as goal

pub returns-then-is_goods_at : goal.returns-then-is_goods_at
returns-then-is_goods_at c =
    passes_more (is_goods_of c.args.target.now) c.args.h.now c.loop-k.k true (list_any (is_goods_of c.args.target.now) (drop (c.args.n + 1) c.args.h.now)) (omega arith) c.loop-k.invariant c.if-is_goods_at.ensures

pub loop-k-preserved : goal.loop-k-preserved
loop-k-preserved c =
    passes_more (is_goods_of c.args.target.now) c.args.h.now c.loop-k.k false (list_any (is_goods_of c.args.target.now) (drop (c.args.n + 1) c.args.h.now)) (omega arith) c.loop-k.invariant c.if-is_goods_at.ensures
