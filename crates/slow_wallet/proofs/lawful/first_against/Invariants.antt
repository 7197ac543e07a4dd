use Rattle.std.proofs.Common.{take, []}
use Rattle.mc_records.specs.Following.{AllFollowBy}
use Rattle.wallet_model.specs.Follows.{WalletFollows}
use Rattle.slow_wallet.proofs.lawful.first_against.Given as goal

abbrev pub invariant-loop-n : goal.invariant-loop-n
invariant-loop-n l = AllFollowBy WalletFollows [] (take l.n l.h)
