use Rattle.std.proofs.Common.{◌≡◌, length, flat_map, take}
use Rattle.mc_records.specs.Cells.{group_bytes}
use Rattle.mc_records.proofs.sizes.groups_len.Given as goal

abbrev pub invariant-loop-group : goal.invariant-loop-group
invariant-loop-group l = l.len ≡ length (flat_map group_bytes (take l.group-index l.groups))
