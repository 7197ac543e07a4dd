use Rattle.std.proofs.Common.{◌≡◌, ◌++◌, flat_map, take}
use Rattle.mc_fields.proofs.appending.append_each.Given as goal

abbrev pub invariant-loop-bytes : goal.invariant-loop-bytes
invariant-loop-bytes g l = l.out.items ≡ l.fn.out.items ++ flat_map (λ s. s) (take l.bytes-index l.list)
