use Rattle.std.proofs.Common.{flat_map, take}
use Rattle.std.proofs.lemmas.Result.{err_from_is_err_and}
use Rattle.mc_fields.proofs.Puts.{front_stays}
use Rattle.mc_records.specs.Cells.{group_bytes}
use Rattle.mc_records.proofs.appending.append_groups.Goals as goal

pub returns-in_err-append_group : goal.returns-in_err-append_group
returns-in_err-append_group c =
    let p = err_from_is_err_and c.from_residual.result c.from_residual.ensures.1 in
    rw p.1 (front_stays c.args.out.now.items c.loop-group.out.items c.append_group.new.out.items (flat_map group_bytes (take c.loop-group.group-index c.args.groups.now)) c.loop-group.invariant c.in_err-append_group.ensures)
