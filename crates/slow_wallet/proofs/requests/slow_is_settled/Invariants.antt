use Rattle.std.proofs.Common.{◌≡◌, drop}
use Rattle.std.specs.List.{list_any}
use Rattle.wallet_model.specs.Requests.{settles}
use Rattle.slow_wallet.proofs.requests.slow_is_settled.Given as goal

abbrev pub invariant-loop-n : goal.invariant-loop-n
invariant-loop-n l = list_any (settles l.number) (drop l.n l.h) ≡ list_any (settles l.number) l.h
