use Rattle.std.proofs.Common.{Some, flat_map, take}
use Rattle.mc_fields.specs.Puts.{Puts}
use Rattle.mc_fields.proofs.room.put_each_if_room.Given as goal

abbrev pub invariant-loop-bytes : goal.invariant-loop-bytes
invariant-loop-bytes g l = Puts l.fn.out l.out l.at (flat_map (λ s. s) (take l.bytes-index l.list)) (Some l.end)
