use Rattle.std.proofs.Common.{arith}
use Rattle.wallet_model.proofs.BookLaws.{unlawful}
use Rattle.slow_wallet.proofs.Steps.{follows_next, first_there}
use Rattle.slow_wallet.proofs.lawful.first_against.Goals as goal

pub returns-then-not-follows-clause-lawful : goal.returns-then-not-follows-clause-lawful
returns-then-not-follows-clause-lawful c =
    (λ some. absurd cc, λ book. absurd (unlawful c.args.h.now c.loop-n.n (first_there c.args.h.now c.loop-n.n (omega arith) c.loop-n.invariant c.if-not-follows.ensures) book))

pub returns-then-not-follows-clause-first : goal.returns-then-not-follows-clause-first
returns-then-not-follows-clause-first c = first_there c.args.h.now c.loop-n.n (omega arith) c.loop-n.invariant c.if-not-follows.ensures

pub loop-n-preserved : goal.loop-n-preserved
loop-n-preserved c = follows_next c.args.h.now c.loop-n.n (omega arith) c.loop-n.invariant c.if-not-follows.ensures
