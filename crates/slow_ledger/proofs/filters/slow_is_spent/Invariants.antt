use Rattle.std.proofs.Common.{◌≡◌, drop}
use Rattle.ledger_model.specs.Pieces.{is_spent}
use Rattle.slow_ledger.proofs.filters.slow_is_spent.Given as goal

abbrev pub invariant-loop-n : goal.invariant-loop-n
invariant-loop-n l = is_spent (drop l.n l.h) l.id ≡ is_spent l.h l.id
