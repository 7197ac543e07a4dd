use Rattle.std.proofs.Common.{arith}
use Rattle.mc_records.proofs.GroupLaws.{group_within}
use Rattle.mc_records.proofs.sizes.groups_len.Goals as goal

pub group_len-len-requires : goal.group_len-len-requires
group_len-len-requires c =
    omega (arith, group_within c.args.groups.now c.loop-group.group-index c.group-item.result (omega (arith, c.loop-group-test.true)) c.group-item.is, c.requires)

pub overflow_add-len : goal.overflow_add-len
overflow_add-len c =
    omega (arith, group_within c.args.groups.now c.loop-group.group-index c.group-item.result (omega (arith, c.loop-group-test.true)) c.group-item.is, c.requires, c.loop-group.invariant, c.group_len-len.ensures)
