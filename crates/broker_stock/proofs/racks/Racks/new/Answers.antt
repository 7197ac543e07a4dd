use Rattle.std.proofs.Common.{rules}
use Rattle.broker_stock.specs.Shelves.{pieces_at, room_at}
use Rattle.broker_stock.proofs.racks.Racks.new.Goals as goal

pub returns : goal.returns
unfolding pieces_at room_at
returns c = search rules
