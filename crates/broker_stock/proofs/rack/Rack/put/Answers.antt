use Rattle.std.proofs.Common.{[], ◌∷◌, List, sym, subst, arith, length-append}
use Rattle.broker_stock.specs.declared.piece.StockPiece.{StockPiece}
use Rattle.broker_stock.specs.Racks.{IsPassed}
use Rattle.broker_stock.proofs.RackLaws.{closed_push}
use Rattle.broker_stock.proofs.rack.Rack.put.Goals as goal

pub invariant_of-self : goal.invariant_of-self
invariant_of-self c =
    let items = c.self.inside.pieces.items in
    let passed = c.self.invariant in
    subst (λ (ps : List StockPiece). IsPassed c.self.inside.noted c.self.inside.ended ps) (sym c.push_back_reserved.ensures.items)
    (record { within = omega (arith, passed.within, length-append items (c.args.piece ∷ [])); closed = closed_push c.self.inside.noted c.self.inside.ended items c.args.piece passed.closed })
