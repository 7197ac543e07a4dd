use Rattle.std.proofs.Common.{Some, List, ℕ}
use Rattle.mc_fields.proofs.Puts.{puts_next, no_room_for_next}
use Rattle.mc_fields.proofs.room.put_each_if_room.Goals as goal

abbrev itself : List ℕ → List ℕ
itself s = s

pub returns-in_err-end : goal.returns-in_err-end
returns-in_err-end g c =
    rw c.from_residual.ensures (no_room_for_next itself c.args.out.now c.loop-bytes.out c.put_if_room.new.out c.args.at c.loop-bytes.end c.loop-bytes.bytes-index c.args.list.now c.bytes-item.result c.bytes-item.result c.requires c.loop-bytes-test.true c.bytes-item.is c.loop-bytes.auto.out c.loop-bytes.invariant c.in_err-end.ensures)

pub loop-bytes-preserved : goal.loop-bytes-preserved
loop-bytes-preserved g c =
    puts_next itself c.args.out.now c.loop-bytes.out c.put_if_room.new.out c.args.at c.loop-bytes.end c.loop-bytes.bytes-index c.args.list.now c.bytes-item.result c.bytes-item.result (Some c.in_ok-end.end) c.requires c.loop-bytes-test.true c.bytes-item.is c.loop-bytes.auto.out c.loop-bytes.invariant c.in_ok-end.ensures
