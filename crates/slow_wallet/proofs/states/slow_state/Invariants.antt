use Rattle.std.proofs.Common.{◌≡◌, take}
use Rattle.wallet_model.specs.Holdings.{state_in}
use Rattle.wallet_book.specs.Holdings.{state_of}
use Rattle.slow_wallet.proofs.states.slow_state.Given as goal

abbrev pub invariant-loop-n : goal.invariant-loop-n
invariant-loop-n l = state_of l.state ≡ state_in (take l.n l.h) l.text
