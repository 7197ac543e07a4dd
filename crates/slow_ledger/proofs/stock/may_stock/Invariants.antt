use Rattle.std.proofs.Common.{◌≡◌, drop, false, option_map, unwrap_or}
use Rattle.std.specs.List.{list_all}
use Rattle.mc_records.specs.PieceViews.{pieces_of}
use Rattle.ledger_model.specs.Stock.{held_piece, may_be_stock}
use Rattle.slow_ledger.proofs.stock.may_stock.Given as goal

abbrev pub invariant-loop-k : goal.invariant-loop-k
invariant-loop-k l = list_all (λ x. unwrap_or (option_map (may_be_stock l.vendor) (held_piece x)) false) (drop l.k (pieces_of l.pieces)) ≡ list_all (λ x. unwrap_or (option_map (may_be_stock l.vendor) (held_piece x)) false) (pieces_of l.pieces)
