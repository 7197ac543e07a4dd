use Rattle.std.proofs.Common.{arith}
use Rattle.ledger_model.specs.Accounts.{order_drawn}
use Rattle.slow_ledger.proofs.Found.{last_more}
use Rattle.slow_ledger.proofs.accounts.slow_last_order.Goals as goal

pub loop-n-preserved : goal.loop-n-preserved
loop-n-preserved c = last_more (order_drawn c.args.name.now) c.args.h.now c.loop-n.n c.loop-n.last c.order_with-last.result (omega arith) c.loop-n.invariant c.order_with-last.ensures
