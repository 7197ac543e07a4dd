use Rattle.std.proofs.Common.{◌≡◌, take, false}
use Rattle.std.specs.List.{list_any}
use Rattle.mc_records.specs.PieceViews.{pieces_of}
use Rattle.wallet_model.specs.Newness.{are_one_piece}
use Rattle.slow_wallet.proofs.newness.is_listed.Given as goal

abbrev pub invariant-loop-k : goal.invariant-loop-k
invariant-loop-k l = list_any (λ p. are_one_piece p.text l.text) (take l.k (pieces_of l.pieces)) ≡ false
