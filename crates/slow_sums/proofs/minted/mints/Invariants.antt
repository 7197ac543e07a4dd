use Rattle.std.proofs.Common.{◌≡◌}
use Rattle.std.specs.List.{list_any}
use Rattle.ledger_model.specs.Pieces.{minted}
use Rattle.slow_sums.specs.Strangers.{same_as}
use Rattle.slow_sums.proofs.MintedLaws.{mints_from}
use Rattle.slow_sums.proofs.minted.mints.Given as goal

abbrev pub invariant-loop-n : goal.invariant-loop-n
invariant-loop-n l = mints_from l.part l.h l.n ≡ list_any (same_as l.part) (minted l.h)
