use Rattle.std.proofs.Common.{◌≡◌, ◌+◌, take, drop}
use Rattle.ledger_model.specs.Pieces.{own_count}
use Rattle.slow_ledger.proofs.CountLaws.{own_from}
use Rattle.slow_ledger.proofs.counts.slow_own_count.Given as goal

abbrev pub invariant-loop-n : goal.invariant-loop-n
invariant-loop-n l = l.all + own_from l.series (take l.n l.h) (drop l.n l.h) ≡ own_count l.h l.series
