use Rattle.std.proofs.Common.{◌≡◌, ◌+◌, drop}
use Rattle.ledger_model.specs.Stock.{licensed_count}
use Rattle.slow_ledger.proofs.stock.slow_licensed_count.Given as goal

abbrev pub invariant-loop-n : goal.invariant-loop-n
invariant-loop-n l = l.all + licensed_count (drop l.n l.h) l.vendor l.series ≡ licensed_count l.h l.vendor l.series
