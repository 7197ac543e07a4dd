use Rattle.std.proofs.Common.{◌≡◌, ◌==◌, drop}
use Rattle.ledger_model.specs.Stock.{held_piece, stock_in}
use Rattle.audit_model.specs.Parts.{part_of}
use Rattle.slow_ledger.proofs.Found.{found_of}
use Rattle.slow_sums.proofs.stock.stocked.Given as goal

abbrev pub invariant-loop-n : goal.invariant-loop-n
invariant-loop-n l = found_of (λ p. p.id == l.id) part_of held_piece (stock_in (drop l.n l.h) l.vendor) ≡ found_of (λ p. p.id == l.id) part_of held_piece (stock_in l.h l.vendor)
