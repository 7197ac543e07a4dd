use Rattle.std.proofs.Common.{◌≡◌, drop}
use Rattle.mc_records.specs.PieceViews.{pieces_of}
use Rattle.ledger_model.specs.Stock.{held_piece, is_for_sale}
use Rattle.slow_ledger.proofs.Found.{found_of}
use Rattle.slow_ledger.proofs.stock.open_of.Given as goal

abbrev pub invariant-loop-k : goal.invariant-loop-k
invariant-loop-k l = found_of (is_for_sale l.h l.time l.vendor l.value) (λ p. p.id) held_piece (drop l.k (pieces_of l.pieces)) ≡ found_of (is_for_sale l.h l.time l.vendor l.value) (λ p. p.id) held_piece (pieces_of l.pieces)
