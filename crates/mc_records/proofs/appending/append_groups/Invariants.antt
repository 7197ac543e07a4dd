use Rattle.std.proofs.Common.{◌≡◌, ◌++◌, flat_map, take}
use Rattle.mc_records.specs.Cells.{group_bytes}
use Rattle.mc_records.proofs.appending.append_groups.Given as goal

abbrev pub invariant-loop-group : goal.invariant-loop-group
invariant-loop-group l = l.out.items ≡ l.fn.out.items ++ flat_map group_bytes (take l.group-index l.groups)
