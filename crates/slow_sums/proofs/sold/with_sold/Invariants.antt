use Rattle.std.proofs.Common.{◌≡◌, ◌++◌, map}
use Rattle.ledger_model.specs.Stock.{sold}
use Rattle.audit_model.specs.Parts.{part_of}
use Rattle.slow_sums.proofs.SoldLaws.{sold_parts}
use Rattle.slow_sums.proofs.sold.with_sold.Given as goal

abbrev pub invariant-loop-n : goal.invariant-loop-n
invariant-loop-n l = sold_parts l.parts.items l.h l.vendor l.n ≡ l.fn.parts.items ++ map part_of (sold l.h l.vendor)
