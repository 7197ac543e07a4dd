use Rattle.std.proofs.Common.{◌≡◌, ◌+◌, take, length}
use Rattle.wallet_model.specs.Holdings.{pieces_came}
use Rattle.slow_wallet.proofs.holdings.piece_at.Given as goal

abbrev pub invariant-loop-n : goal.invariant-loop-n
invariant-loop-n l = l.place ≡ length (pieces_came (take l.n l.h)) + l.skip
