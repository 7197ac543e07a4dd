use Rattle.std.proofs.Common.{true, false}
use Rattle.slow_sums.specs.Parts.{sale_by}
use Rattle.slow_sums.proofs.Strange.{sale_tells}
use Rattle.slow_sums.proofs.strangers.stranger_sold.Goals as goal

pub returns-then-is_minted : goal.returns-then-is_minted
returns-then-is_minted c =
    sale_tells c.args.books.now c.args.h.now (sale_by c.args.sale.now) c.in-Some.part true c.if-not-sale.false c.in-Some.ensures c.if-is_minted.ensures

pub returns-else-is_minted : goal.returns-else-is_minted
returns-else-is_minted c =
    sale_tells c.args.books.now c.args.h.now (sale_by c.args.sale.now) c.in-Some.part false c.if-not-sale.false c.in-Some.ensures c.if-is_minted.ensures
