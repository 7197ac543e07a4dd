use Rattle.std.proofs.Common.{◌≡◌, drop}
use Rattle.ledger_model.specs.Accounts.{key_in}
use Rattle.slow_ledger.proofs.accounts.slow_key.Given as goal

abbrev pub invariant-loop-n : goal.invariant-loop-n
invariant-loop-n l = key_in (drop l.n l.h) l.name ≡ key_in l.h l.name
