use Rattle.std.proofs.Common.{◌≡◌, ◌++◌, filter_map, length}
use Rattle.mc_records.specs.PieceViews.{pieces_of}
use Rattle.audit_sums.specs.Rows.{stocked_held}
use Rattle.audit_sums.proofs.market.put_pieces.Given as goal

-- with the pieces that are left, the stock is as it will be
abbrev pub invariant-loop-rest : goal.invariant-loop-rest
invariant-loop-rest l =
    l.stock.items ++ filter_map (stocked_held l.vendor) (pieces_of l.list) ≡ l.initial.stock.items ++ filter_map (stocked_held l.vendor) (pieces_of l.pieces)

abbrev pub decreases-loop-rest : goal.decreases-loop-rest
decreases-loop-rest l = length (pieces_of l.list)
