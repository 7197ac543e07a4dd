use Rattle.std.proofs.Common.{◌≡◌, ◌+◌, length}
use Rattle.slow_wallet.proofs.Places.{kept_front}
use Rattle.slow_wallet.proofs.kept.slow_kept.Given as goal

abbrev pub invariant-loop-n : goal.invariant-loop-n
invariant-loop-n l = l.place ≡ length (kept_front l.h l.n) + l.skip
