use Rattle.std.proofs.Common.{◌≡◌, drop}
use Rattle.ledger_model.specs.Stock.{held_piece, is_for_sale, stock_in}
use Rattle.slow_ledger.proofs.Found.{found_of}
use Rattle.slow_ledger.proofs.stock.slow_for_sale.Given as goal

abbrev pub invariant-loop-n : goal.invariant-loop-n
invariant-loop-n l = found_of (is_for_sale l.h l.time l.vendor l.value) (λ p. p.id) held_piece (stock_in (drop l.n l.h) l.vendor) ≡ found_of (is_for_sale l.h l.time l.vendor l.value) (λ p. p.id) held_piece (stock_in l.h l.vendor)
