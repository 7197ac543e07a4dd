use Rattle.std.proofs.Common.{◌≡◌, find, length}
use Rattle.mc_records.specs.PieceViews.{pieces_of, pieces_left}
use Rattle.wallet_book.specs.Holdings.{texts_of}
use Rattle.wallet_core.specs.Taking.{is_twice}
use Rattle.wallet_core.proofs.taking.first_twice.Given as goal

abbrev pub invariant-loop-rest : goal.invariant-loop-rest
invariant-loop-rest l = find (is_twice (texts_of l.book.holdings) (pieces_of l.pieces)) (pieces_left l.rest) ≡ find (is_twice (texts_of l.book.holdings) (pieces_of l.pieces)) (pieces_of l.pieces)

abbrev pub decreases-loop-rest : goal.decreases-loop-rest
decreases-loop-rest l = length (pieces_left l.rest)
