use Rattle.std.proofs.Common.{Some, flat_map, take}
use Rattle.mc_fields.specs.Puts.{Puts}
use Rattle.mc_records.specs.Cells.{group_bytes}
use Rattle.mc_records.proofs.writing.put_groups.Given as goal

abbrev pub invariant-loop-group : goal.invariant-loop-group
invariant-loop-group l = Puts l.initial.out l.out 0 (flat_map group_bytes (take l.group-index l.groups)) (Some l.at)
