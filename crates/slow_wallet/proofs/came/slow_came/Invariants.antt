use Rattle.std.proofs.Common.{◌≡◌, take, false}
use Rattle.std.specs.List.{list_any}
use Rattle.wallet_model.specs.Holdings.{pieces_came}
use Rattle.slow_wallet.specs.Slow.{are_alike}
use Rattle.slow_wallet.proofs.came.slow_came.Given as goal

abbrev pub invariant-loop-n : goal.invariant-loop-n
invariant-loop-n l = list_any (λ p. are_alike l.by p.text l.text) (pieces_came (take l.n l.h)) ≡ false
