use Rattle.wallet_core.proofs.AskLaws.{pays_none}
use Rattle.wallet_core.proofs.asking.paying.Goals as goal

pub returns-in-Ok-clause-exact : goal.returns-in-Ok-clause-exact
returns-in-Ok-clause-exact c = λ h is. c.paying_from.ensures.exact h c.args.limit is (c.in-Ok.ensures.exact h is)

pub returns-in-Err-clause-exact : goal.returns-in-Err-clause-exact
returns-in-Err-clause-exact c = λ h is.
    pays_none h c.args.book.now.time c.args.ask c.args.limit c.args.peer.now c.args.target.now c.in-Err.refusal (c.in-Err.ensures.exact h is)
