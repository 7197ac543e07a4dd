use Rattle.mc_world.proofs.Wallets.{IsOpening}
use Rattle.mc_world.proofs.wallet.open.Given as goal

abbrev pub invariant-loop-number : goal.invariant-loop-number
invariant-loop-number l = IsOpening l.fn.limits l.fn.history l.number l.book
