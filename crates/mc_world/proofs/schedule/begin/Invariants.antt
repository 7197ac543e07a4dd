use Rattle.std.proofs.Common.{◌≡◌, ◌++◌, length, map}
use Rattle.std.specs.List.{AllByRecursion}
use Rattle.std.specs.Vec.Iter.{into_iter_items, into_iter_len}
use Rattle.mc_records.specs.Entry.{Fits}
use Rattle.world_model.specs.Worlds.{opens}
use Rattle.mc_world.proofs.schedule.begin.Given as goal

abbrev pub invariant-loop-history : goal.invariant-loop-history
invariant-loop-history l = record {
  items : l.yielded ++ into_iter_items l.history-iterator ≡ into_iter_items l.initial.history-iterator;
  left : into_iter_len l.history-iterator ≡ length (into_iter_items l.history-iterator);
  fits : AllByRecursion (λ h. AllByRecursion Fits h) (into_iter_items l.history-iterator);
  houses : l.houses.items ≡ map opens l.yielded;
}
