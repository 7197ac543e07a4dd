use Rattle.std.proofs.Common.{take}
use Rattle.wallet_book.specs.Choosing.{fit_among, HasSeen}
use Rattle.wallet_book.proofs.choosing.choose.Given as goal

abbrev pub invariant-loop-place : goal.invariant-loop-place
invariant-loop-place l = HasSeen (fit_among (take l.place l.holdings) l.time l.vendor) l.limit l.least l.greatest
