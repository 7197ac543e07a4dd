use Rattle.std.proofs.Common.{None, Ok, refl, arith}
use Rattle.wallet_core.specs.declared.request.WalletRequest.{WalletRequest}
use Rattle.wallet_core.specs.Asks.{asking_of}
use Rattle.wallet_core.proofs.AskLaws.{asked_follows, low_ask}
use Rattle.wallet_core.proofs.asking.request_for.Goals as goal

pub returns-in-Get-clause-exact : goal.returns-in-Get-clause-exact
returns-in-Get-clause-exact c = λ h is. rw c.in-Get.is (c.paying.ensures.exact h is)

pub returns-in-Get-clause-follows : goal.returns-in-Get-clause-follows
returns-in-Get-clause-follows c = λ h is.
    asked_follows c.args.book.now h (asking_of c.args.ask.now) c.paying.result is (rw c.in-Get.is tt) (rw c.in-Get.is (c.paying.ensures.exact h is))

pub returns-in-Get-clause-ask : goal.returns-in-Get-clause-ask
returns-in-Get-clause-ask c = low_ask 0 c.paying.result (omega arith) c.paying.ensures.ask

pub returns-in-Buy-clause-exact : goal.returns-in-Buy-clause-exact
returns-in-Buy-clause-exact c = λ h is. rw c.in-Buy.is (rw c.buy_target.ensures.target at c.paying-in-Buy.ensures.exact h is)

pub returns-in-Buy-clause-follows : goal.returns-in-Buy-clause-follows
returns-in-Buy-clause-follows c = λ h is.
    asked_follows c.args.book.now h (asking_of c.args.ask.now) c.paying-in-Buy.result is (rw c.in-Buy.is c.buy_target.ensures.errand) (rw c.in-Buy.is (rw c.buy_target.ensures.target at c.paying-in-Buy.ensures.exact h is))

pub returns-in-Buy-clause-ask : goal.returns-in-Buy-clause-ask
returns-in-Buy-clause-ask c = low_ask 1 c.paying-in-Buy.result (omega arith) c.paying-in-Buy.ensures.ask

pub returns-in-Draw-clause-follows : goal.returns-in-Draw-clause-follows
returns-in-Draw-clause-follows c = λ h is.
    let p : WalletRequest = record { ask = 2; peer = c.in-Draw.broker; target = c.draw_target.result; scrip = None; secret = c.in-Draw.key } in
    asked_follows c.args.book.now h (asking_of c.args.ask.now) (Ok p) is (rw c.in-Draw.is c.draw_target.ensures.errand) (rw c.in-Draw.is (rw c.draw_target.ensures.target refl))
