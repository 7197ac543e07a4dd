use Rattle.std.proofs.Common.{◌≡◌, drop}
use Rattle.ledger_model.specs.Stock.{knows_vendor}
use Rattle.slow_ledger.proofs.stock.slow_knows_vendor.Given as goal

abbrev pub invariant-loop-n : goal.invariant-loop-n
invariant-loop-n l = knows_vendor (drop l.n l.h) l.vendor ≡ knows_vendor l.h l.vendor
