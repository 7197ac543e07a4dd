use Rattle.std.proofs.Common.{Some, arith}
use Rattle.mc_fields.proofs.Puts.{puts_next, no_room_for_next}
use Rattle.mc_records.specs.Cells.{group_bytes}
use Rattle.mc_records.proofs.writing.put_groups.Goals as goal

pub returns-in_err-at : goal.returns-in_err-at
returns-in_err-at c =
    rw c.from_residual.ensures (no_room_for_next group_bytes c.args.out.now c.loop-group.out c.put_group.new.out 0 c.loop-group.at c.loop-group.group-index c.args.groups.now c.group-item.result c.group-item.result (omega arith) c.loop-group-test.true c.group-item.is c.loop-group.auto.out c.loop-group.invariant c.in_err-at.ensures)

pub loop-group-preserved : goal.loop-group-preserved
loop-group-preserved c =
    puts_next group_bytes c.args.out.now c.loop-group.out c.put_group.new.out 0 c.loop-group.at c.loop-group.group-index c.args.groups.now c.group-item.result c.group-item.result (Some c.in_ok-at.at) (omega arith) c.loop-group-test.true c.group-item.is c.loop-group.auto.out c.loop-group.invariant c.in_ok-at.ensures
