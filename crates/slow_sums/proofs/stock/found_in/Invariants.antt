use Rattle.std.proofs.Common.{◌≡◌, ◌==◌, drop}
use Rattle.mc_records.specs.PieceViews.{pieces_of}
use Rattle.ledger_model.specs.Stock.{held_piece}
use Rattle.audit_model.specs.Parts.{part_of}
use Rattle.slow_ledger.proofs.Found.{found_of}
use Rattle.slow_sums.proofs.stock.found_in.Given as goal

abbrev pub invariant-loop-k : goal.invariant-loop-k
invariant-loop-k l = found_of (λ p. p.id == l.id) part_of held_piece (drop l.k (pieces_of l.pieces)) ≡ found_of (λ p. p.id == l.id) part_of held_piece (pieces_of l.pieces)
