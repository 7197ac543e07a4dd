use Rattle.std.proofs.Common.{[], ◌∷◌, refl, sym, ◌∙◌}
use Rattle.counted_trade.proofs.JudgeLemmas.{no_licence, other_issuer, bad_cert, certified, err_more}
use Rattle.counted_trade.proofs.judging.judge.Goals as goal

pub returns-in_default-clause-exact : goal.returns-in_default-clause-exact
returns-in_default-clause-exact c h stands = no_licence h c.args.time c.args.statement.now (sym (c.in_default.ensures h stands))

pub returns-then-issuer-payment-clause-exact : goal.returns-then-issuer-payment-clause-exact
returns-then-issuer-payment-clause-exact c h stands =
    other_issuer h c.args.time c.args.statement.now c.in-Some.terms.now (sym (c.in-Some.ensures h stands)) (λ same. c.if-issuer-payment.true (c.issuer.ensures ∙ same))

pub returns-then-not-is_certified-clause-exact : goal.returns-then-not-is_certified-clause-exact
returns-then-not-is_certified-clause-exact c h stands =
    bad_cert h c.args.time c.args.statement.now c.in-Some.terms.now (sym (c.in-Some.ensures h stands)) (sym c.issuer.ensures ∙ c.if-issuer-payment.false)
    (sym c.is_certified.ensures ∙ c.if-not-is_certified.true)

pub returns-clause-exact : goal.returns-clause-exact
returns-clause-exact c h stands =
    c.judge_payment.ensures.exact h stands
    ∙ sym (certified h c.args.time c.args.statement.now c.in-Some.terms.now (sym (c.in-Some.ensures h stands)) (sym c.issuer.ensures ∙ c.if-issuer-payment.false)
    (sym c.is_certified.ensures ∙ c.if-not-is_certified.false))

pub returns-clause-refusals : goal.returns-clause-refusals
returns-clause-refusals c = err_more (74 ∷ 76 ∷ 77 ∷ []) (43 ∷ 74 ∷ 75 ∷ 76 ∷ 77 ∷ []) c.judge_payment.result refl c.judge_payment.ensures.refusals
