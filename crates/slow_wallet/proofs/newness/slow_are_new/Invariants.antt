use Rattle.std.proofs.Common.{◌≡◌, map, take, true}
use Rattle.mc_records.specs.PieceViews.{pieces_of}
use Rattle.wallet_model.specs.Holdings.{texts_came}
use Rattle.wallet_model.specs.Newness.{are_new}
use Rattle.slow_wallet.proofs.newness.slow_are_new.Given as goal

abbrev pub invariant-loop-k : goal.invariant-loop-k
invariant-loop-k l = are_new (texts_came l.h) (map (λ p. p.text) (take l.k (pieces_of l.pieces))) ≡ true
