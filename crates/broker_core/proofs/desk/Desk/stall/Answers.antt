use Rattle.broker_core.proofs.DeskLaws.{nothing_of, none_found}
use Rattle.broker_core.proofs.desk.Desk.stall.Goals as goal

pub returns-clause-none : goal.returns-clause-none
returns-clause-none c h stands none = nothing_of h c.args.vendor.now (none_found h c.args.vendor.now c.stall.result none (c.stall.ensures.shows h stands.of_stalls))
