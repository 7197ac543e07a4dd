use Rattle.std.proofs.Common.{ℕ, eqb, not, refl, ap}
use Rattle.broker_stalls.specs.Stalls.{has_id}
use Rattle.broker_stock.specs.Shelves.{pieces_at}
use Rattle.broker_stalls.proofs.stall.Stall.new.Goals as goal

pub returns : goal.returns
unfolding has_id pieces_at
returns c = record {
  terms = refl;
  counts = λ series. refl;
  ids = c.new.ensures.ids;
  pieces = c.new-2.ensures.pieces;
  known = ap (λ (n : ℕ). not (eqb n 0)) c.new.ensures.none;
}
