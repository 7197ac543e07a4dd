use Rattle.std.proofs.Common.{take}
use Rattle.wallet_book.specs.Choosing.{fit_among, HasFirst}
use Rattle.wallet_book.proofs.choosing.first_due.Given as goal

abbrev pub invariant-loop-place : goal.invariant-loop-place
invariant-loop-place l = HasFirst l.holdings l.time l.vendor (fit_among (take l.place l.holdings) l.time l.vendor) l.before l.first
