use Rattle.slow_wallet.proofs.Steps.{alone_new}
use Rattle.slow_wallet.proofs.newness.change_is_new.Goals as goal

pub returns-in-Some : goal.returns-in-Some
returns-in-Some c = rw c.in-Some.is (alone_new c.args.h.now c.in-Some.text.now c.slow_came.result c.slow_came.ensures)
