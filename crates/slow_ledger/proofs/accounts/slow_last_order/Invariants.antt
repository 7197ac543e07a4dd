use Rattle.std.proofs.Common.{◌≡◌, take}
use Rattle.ledger_model.specs.Accounts.{last_order}
use Rattle.slow_ledger.proofs.accounts.slow_last_order.Given as goal

abbrev pub invariant-loop-n : goal.invariant-loop-n
invariant-loop-n l = l.last ≡ last_order (take l.n l.h) l.name
