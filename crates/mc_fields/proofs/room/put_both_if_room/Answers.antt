use Rattle.mc_fields.proofs.Puts.{puts_then}
use Rattle.mc_fields.proofs.room.put_both_if_room.Goals as goal

pub returns : goal.returns
returns c = puts_then c.args.out.now c.put_if_room.new.out c.put_if_room-2.new.out c.args.at c.in_ok-at.at c.args.first.now c.args.second.now c.put_if_room-2.result c.requires c.put_if_room.auto.out c.in_ok-at.ensures c.put_if_room-2.ensures
