use Rattle.std.proofs.Common.{sym, arith}
use Rattle.counted_trade.proofs.JudgeLemmas.{paid_same, paid_other, still_open, over_sold, is_due}
use Rattle.counted_trade.proofs.judging.judge_payment.Goals as goal

pub returns-then-paid-claim-clause-exact : goal.returns-then-paid-claim-clause-exact
returns-then-paid-claim-clause-exact c h stands = paid_same h c.args.time c.args.payment.now c.args.terms.now c.in-Some.paid (sym (c.in-Some.ensures h stands)) c.if-paid-claim.true

pub returns-else-paid-claim-clause-exact : goal.returns-else-paid-claim-clause-exact
returns-else-paid-claim-clause-exact c h stands = paid_other h c.args.time c.args.payment.now c.args.terms.now c.in-Some.paid (sym (c.in-Some.ensures h stands)) c.if-paid-claim.false

pub returns-then-now-end-clause-exact : goal.returns-then-now-end-clause-exact
returns-then-now-end-clause-exact c h stands =
    still_open h c.args.time c.args.payment.now c.args.terms.now c.series_end-end.result c.seconds-now.result (sym (c.in_default.ensures h stands)) c.series_end-end.ensures c.seconds-now.ensures.seconds c.if-now-end.true

pub returns-then-sold-claim-clause-exact : goal.returns-then-sold-claim-clause-exact
returns-then-sold-claim-clause-exact c h stands =
    over_sold h c.args.time c.args.payment.now c.args.terms.now c.sold-sold.result (sym (c.in_default.ensures h stands)) (omega (arith, c.if-now-end.false, c.seconds-now.ensures.seconds, c.series_end-end.ensures)) (c.sold-sold.ensures h stands) c.if-sold-claim.true

pub returns-clause-exact : goal.returns-clause-exact
returns-clause-exact c h stands =
    is_due h c.args.time c.args.payment.now c.args.terms.now c.sold-sold.result (sym (c.in_default.ensures h stands)) (omega (arith, c.if-now-end.false, c.seconds-now.ensures.seconds, c.series_end-end.ensures)) (c.sold-sold.ensures h stands) c.if-sold-claim.false
