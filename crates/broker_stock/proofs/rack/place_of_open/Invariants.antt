use Rattle.broker_stock.specs.Racks.{IsPassed}
use Rattle.broker_stock.proofs.rack.place_of_open.Given as goal

-- none of those that were looked at is for sale
abbrev pub invariant-loop-place : goal.invariant-loop-place
invariant-loop-place l = IsPassed l.now l.place l.pieces.items
