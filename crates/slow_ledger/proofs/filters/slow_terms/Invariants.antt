use Rattle.std.proofs.Common.{◌≡◌, drop}
use Rattle.ledger_model.specs.Houses.{terms_in}
use Rattle.slow_ledger.proofs.filters.slow_terms.Given as goal

abbrev pub invariant-loop-n : goal.invariant-loop-n
invariant-loop-n l = terms_in (drop l.n l.h) l.issuer ≡ terms_in l.h l.issuer
