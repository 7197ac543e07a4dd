use Rattle.std.proofs.Common.{sym}
use Rattle.slow_sums.proofs.stock.stocked_at.Goals as goal

pub returns-then-eq : goal.returns-then-eq
returns-then-eq c = rw c.in-Stock.ensures.found (rw (sym c.if-eq.ensures) c.found_in.ensures)
