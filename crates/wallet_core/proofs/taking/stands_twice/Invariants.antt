use Rattle.std.proofs.Common.{◌≡◌, ◌+◌, length}
use Rattle.std.specs.Prelude.{count_by}
use Rattle.mc_records.specs.PieceViews.{pieces_of, pieces_left}
use Rattle.wallet_model.specs.Newness.{are_one_piece}
use Rattle.wallet_core.proofs.taking.stands_twice.Given as goal

abbrev pub invariant-loop-rest : goal.invariant-loop-rest
invariant-loop-rest l = l.count + count_by (λ q. are_one_piece q.text l.scrip.text) (pieces_left l.rest) ≡ count_by (λ q. are_one_piece q.text l.scrip.text) (pieces_of l.pieces)

abbrev pub decreases-loop-rest : goal.decreases-loop-rest
decreases-loop-rest l = length (pieces_left l.rest)
