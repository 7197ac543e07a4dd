use Rattle.std.proofs.Common.{◌≡◌, drop, eqb}
use Rattle.std.specs.List.{list_any}
use Rattle.ledger_model.specs.Stock.{stock_ids}
use Rattle.slow_ledger.proofs.stock.slow_is_stocked.Given as goal

abbrev pub invariant-loop-n : goal.invariant-loop-n
invariant-loop-n l = list_any (λ i. eqb i l.id) (stock_ids (drop l.n l.h) l.vendor) ≡ list_any (λ i. eqb i l.id) (stock_ids l.h l.vendor)
