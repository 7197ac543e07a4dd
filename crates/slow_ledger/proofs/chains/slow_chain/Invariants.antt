use Rattle.std.proofs.Common.{◌≡◌, take}
use Rattle.mc_records.specs.Chains.{chain}
use Rattle.slow_ledger.proofs.chains.slow_chain.Given as goal

abbrev pub invariant-loop-n : goal.invariant-loop-n
invariant-loop-n l = l.chain ≡ chain (take l.n l.h)
