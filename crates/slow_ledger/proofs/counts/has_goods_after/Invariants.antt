use Rattle.std.proofs.Common.{◌≡◌, ◌+◌, drop}
use Rattle.std.specs.List.{list_any}
use Rattle.ledger_model.specs.Goods.{is_goods_of}
use Rattle.slow_ledger.proofs.counts.has_goods_after.Given as goal

abbrev pub invariant-loop-k : goal.invariant-loop-k
invariant-loop-k l = list_any (is_goods_of l.target) (drop l.k l.h) ≡ list_any (is_goods_of l.target) (drop (l.n + 1) l.h)
