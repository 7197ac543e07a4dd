use Rattle.broker_ledger.specs.Ledger.{order_view}
use Rattle.broker_core.proofs.DeskLaws.{order_some}
use Rattle.broker_core.proofs.desk.DeskTrade.draw.Goals as goal

pub returns-in_default-standing-clause-some : goal.returns-in_default-standing-clause-some
returns-in_default-standing-clause-some c = order_some c.args.target.now (order_view c.in-Some.order) c.in-Some.ensures

pub returns-clause-some : goal.returns-clause-some
returns-clause-some c = order_some c.args.target.now (order_view c.in-Some.order) c.in-Some.ensures
