use Rattle.std.proofs.Common.{take}
use Rattle.std.specs.List.{AllByRecursion}
use Rattle.mc_world.specs.Games.{IsReadEntry}
use Rattle.mc_world.proofs.schedule.history_is_read.Given as goal

abbrev pub invariant-loop-number : goal.invariant-loop-number
invariant-loop-number l = AllByRecursion IsReadEntry (take l.number l.history)
