use Rattle.std.proofs.Common.{◌≡◌, ◌+◌, take, drop}
use Rattle.mc_records.specs.Chains.{has_switch}
use Rattle.mc_records.specs.Sizes.{size, size_from}
use Rattle.slow_ledger.proofs.counts.slow_size.Given as goal

abbrev pub invariant-loop-n : goal.invariant-loop-n
invariant-loop-n l = record { all : l.all + size_from (take l.n l.h) (drop l.n l.h) ≡ size l.h; switched : l.switched ≡ has_switch (take l.n l.h) }
