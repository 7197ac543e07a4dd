use Rattle.std.proofs.Common.{arith, ◌++◌, map}
use Rattle.ledger_model.specs.Stock.{sold}
use Rattle.audit_model.specs.Parts.{part_of}
use Rattle.slow_sums.proofs.SoldLaws.{sold_more}
use Rattle.slow_sums.proofs.sold.with_sold.Goals as goal

pub loop-n-preserved : goal.loop-n-preserved
loop-n-preserved c =
    sold_more c.args.h.now c.args.vendor.now c.loop-n.n c.loop-n.parts.items c.in_ok-parts.parts.items (c.args.parts.items ++ map part_of (sold c.args.h.now c.args.vendor.now)) c.sold_at.result (omega arith) c.loop-n.invariant c.sold_at.ensures c.in_ok-parts.ensures
