use Rattle.std.proofs.Common.{◌≡◌, drop}
use Rattle.ledger_model.specs.Stock.{is_sold}
use Rattle.slow_ledger.proofs.stock.slow_is_sold.Given as goal

abbrev pub invariant-loop-n : goal.invariant-loop-n
invariant-loop-n l = is_sold (drop l.n l.h) l.vendor l.id ≡ is_sold l.h l.vendor l.id
