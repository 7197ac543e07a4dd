use Rattle.std.proofs.Common.{length}
use Rattle.mc_records.specs.PieceViews.{pieces_of, pieces_left}
use Rattle.wallet_book.specs.Parts.{Bringing}
use Rattle.wallet_book.proofs.parts.bring_all.Given as goal

abbrev pub invariant-loop-rest : goal.invariant-loop-rest
invariant-loop-rest l = Bringing (pieces_of l.pieces) (pieces_left l.rest) l.initial.holdings.list l.holdings.list l.holdings.room

abbrev pub decreases-loop-rest : goal.decreases-loop-rest
decreases-loop-rest l = length (pieces_left l.rest)
