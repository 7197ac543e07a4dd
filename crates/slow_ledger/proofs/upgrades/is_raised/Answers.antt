use Rattle.std.proofs.Common.{true, false, arith}
use Rattle.std.specs.List.{list_any}
use Rattle.ledger_model.specs.Houses.{upgrade_of, upgrades_of, raises}
use Rattle.slow_ledger.proofs.SlowLaws.{any_more}
use Rattle.slow_ledger.proofs.upgrades.is_raised.Goals as goal

pub returns-then-raises_at : goal.returns-then-raises_at
returns-then-raises_at c =
    any_more (raises c.args.series) (upgrade_of c.args.vendor.now) c.args.h.now c.loop-n.n true (list_any (raises c.args.series) (upgrades_of c.args.h.now c.args.vendor.now)) (omega arith) c.loop-n.invariant c.if-raises_at.ensures

pub loop-n-preserved : goal.loop-n-preserved
loop-n-preserved c =
    any_more (raises c.args.series) (upgrade_of c.args.vendor.now) c.args.h.now c.loop-n.n false (list_any (raises c.args.series) (upgrades_of c.args.h.now c.args.vendor.now)) (omega arith) c.loop-n.invariant c.if-raises_at.ensures
