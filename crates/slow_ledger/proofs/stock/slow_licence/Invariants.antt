use Rattle.std.proofs.Common.{◌≡◌, drop}
use Rattle.ledger_model.specs.Stock.{licence_in}
use Rattle.slow_ledger.proofs.stock.slow_licence.Given as goal

abbrev pub invariant-loop-n : goal.invariant-loop-n
invariant-loop-n l = licence_in (drop l.n l.h) l.vendor ≡ licence_in l.h l.vendor
