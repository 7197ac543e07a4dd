use Rattle.std.proofs.Common.{arith, rules, ◌≡◌, false, true}
use Rattle.slow_ledger.proofs.FirstUnlawful.{follows_more, unlawful_there, first_there}
use Rattle.slow_ledger.proofs.following.first_unlawful.Goals as goal

pub returns-then-not-branch-clause-lawful : goal.returns-then-not-branch-clause-lawful
returns-then-not-branch-clause-lawful c =
    let no' : c.in_ok-may_follow.field-0 ≡ false = search rules in
    (λ f. absurd (cc), λ lawful. absurd (unlawful_there c.args.limits c.args.h.now c.loop-n.n c.in_ok-may_follow.field-0 (omega arith) c.in_ok-may_follow.ensures no' lawful))

pub returns-then-not-branch-clause-first : goal.returns-then-not-branch-clause-first
returns-then-not-branch-clause-first c =
    let no' : c.in_ok-may_follow.field-0 ≡ false = search rules in
    first_there c.args.limits c.args.h.now c.loop-n.n c.in_ok-may_follow.field-0 (omega arith) c.loop-n.invariant c.in_ok-may_follow.ensures no'

pub loop-n-preserved : goal.loop-n-preserved
loop-n-preserved c =
    let yes' : c.in_ok-may_follow.field-0 ≡ true = search rules in
    follows_more c.args.limits c.args.h.now c.loop-n.n c.in_ok-may_follow.field-0 (omega arith) c.loop-n.invariant c.in_ok-may_follow.ensures yes'
