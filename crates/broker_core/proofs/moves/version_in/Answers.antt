use Rattle.std.proofs.Common.{◌∙◌, true, false, sym}
use Rattle.broker_core.proofs.MoveLaws.{version_is}
use Rattle.broker_core.proofs.moves.version_in.Goals as goal

pub returns-then-is_raised-clause-value : goal.returns-then-is_raised-clause-value
returns-then-is_raised-clause-value c = version_is c.args.vendor.now c.args.series c.args.moved.now true (sym c.if-is_raised.true ∙ c.is_raised.ensures)

pub returns-else-is_raised-clause-value : goal.returns-else-is_raised-clause-value
returns-else-is_raised-clause-value c = version_is c.args.vendor.now c.args.series c.args.moved.now false (sym c.if-is_raised.false ∙ c.is_raised.ensures)
