use Rattle.std.proofs.Common.{◌≡◌, ◌++◌, length, map}
use Rattle.std.specs.Vec.Iter.{into_iter_items, into_iter_len}
use Rattle.mc_world.proofs.schedule.end.Given as goal

abbrev pub invariant-loop-house : goal.invariant-loop-house
invariant-loop-house l = record {
  items : l.yielded ++ into_iter_items l.house-iterator ≡ into_iter_items l.initial.house-iterator;
  left : into_iter_len l.house-iterator ≡ length (into_iter_items l.house-iterator);
  histories : l.histories.items ≡ map (λ s. s.history) l.yielded;
}

abbrev pub invariant-loop-message : goal.invariant-loop-message
invariant-loop-message l = record {
  items : l.yielded ++ into_iter_items l.message-iterator ≡ into_iter_items l.initial.message-iterator;
  left : into_iter_len l.message-iterator ≡ length (into_iter_items l.message-iterator);
  messages : map (λ b. b.items) l.messages.items ≡ map (λ m. m.bytes) l.yielded;
}
