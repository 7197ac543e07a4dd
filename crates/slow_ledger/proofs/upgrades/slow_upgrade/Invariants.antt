use Rattle.std.proofs.Common.{◌≡◌, drop}
use Rattle.ledger_model.specs.Houses.{upgrade_in}
use Rattle.slow_ledger.proofs.upgrades.slow_upgrade.Given as goal

abbrev pub invariant-loop-n : goal.invariant-loop-n
invariant-loop-n l = upgrade_in (drop l.n l.h) l.vendor l.issuer ≡ upgrade_in l.h l.vendor l.issuer
