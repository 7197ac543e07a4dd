use Rattle.std.proofs.Common.{◌≡◌, take}
use Rattle.mc_records.specs.Chains.{has_switch}
use Rattle.slow_ledger.proofs.chains.slow_has_switch.Given as goal

abbrev pub invariant-loop-n : goal.invariant-loop-n
invariant-loop-n l = l.switched ≡ has_switch (take l.n l.h)
