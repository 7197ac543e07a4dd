use Rattle.std.proofs.Common.{◌≡◌, drop}
use Rattle.std.specs.List.{list_any}
use Rattle.ledger_model.specs.Houses.{raises, upgrades_of}
use Rattle.slow_ledger.proofs.upgrades.is_raised.Given as goal

abbrev pub invariant-loop-n : goal.invariant-loop-n
invariant-loop-n l = list_any (raises l.series) (upgrades_of (drop l.n l.h) l.vendor) ≡ list_any (raises l.series) (upgrades_of l.h l.vendor)
