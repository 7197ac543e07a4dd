use Rattle.std.proofs.Common.{List, ap, subst, arith}
use Rattle.broker_stock.specs.declared.piece.StockPiece.{StockPiece}
use Rattle.broker_stock.specs.Racks.{RackView, IsPassed}
use Rattle.broker_stock.proofs.RackLaws.{all_later}
use Rattle.broker_stock.proofs.rack.Rack.start.Goals as goal

pub returns-else-seconds : goal.returns-else-seconds
returns-else-seconds c =
    let items = c.self.inside.pieces.items in
    let same = ap (λ (v : RackView). v.pieces) c.self.view_is in
    let passed = c.self.invariant in
    subst (λ (ps : List StockPiece). IsPassed c.args.now c.self.inside.ended ps) same (record { within = passed.within; closed = all_later c.self.inside.noted c.args.now c.self.inside.ended items (omega arith) passed.closed })
