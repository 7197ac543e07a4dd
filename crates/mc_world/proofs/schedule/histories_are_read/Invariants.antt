use Rattle.std.proofs.Common.{take}
use Rattle.std.specs.List.{AllByRecursion}
use Rattle.mc_world.specs.Games.{IsRead}
use Rattle.mc_world.proofs.schedule.histories_are_read.Given as goal

abbrev pub invariant-loop-history : goal.invariant-loop-history
invariant-loop-history l = AllByRecursion IsRead (take l.history-index l.histories)
