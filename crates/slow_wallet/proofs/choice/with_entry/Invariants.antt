use Rattle.std.proofs.Common.{List, ◌++◌, take}
use Rattle.slow_wallet.specs.Slow.{brought_at}
use Rattle.slow_wallet.specs.Choices.{Fitting, IsChoice}
use Rattle.slow_wallet.proofs.ChoiceLaws.{fits_of}
use Rattle.slow_wallet.proofs.choice.with_entry.Given as goal

abbrev pub invariant-loop-k : goal.invariant-loop-k
invariant-loop-k l = (xs : List Fitting) → IsChoice l.limit xs l.initial.choice → IsChoice l.limit (xs ++ fits_of l.h l.moment l.vendor (take l.k (brought_at l.h l.n))) l.choice
