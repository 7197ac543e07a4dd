use Rattle.std.proofs.Common.{◌≤◌, ◌<◌, false, sym, ap, ◌∙◌, arith}
use Rattle.std.specs.Prelude.{is_some}
use Rattle.std.proofs.lemmas.Bool.{leb-true, le-leb}
use Rattle.scrip_form.specs.Issuing.{series_end}
use Rattle.counted_trade.proofs.OrderLaws.{says_no, no_licence_of, of_another, not_ended, paid_already, pays}
use Rattle.counted_trade.proofs.counts.Counts.may_pay.Goals as goal

pub returns-in_default : goal.returns-in_default
returns-in_default c h stands = says_no _ (no_licence_of h c.args.moment c.args.payment.now (sym (c.in_default.ensures h stands)))

pub returns-then-issuer-claim : goal.returns-then-issuer-claim
returns-then-issuer-claim c h stands =
    says_no _ (of_another h c.args.moment c.args.payment.now c.in-Some.terms.now (sym (c.in-Some.ensures h stands)) (λ same. c.if-issuer-claim.true (c.issuer.ensures ∙ same)))

pub returns-then-now-end : goal.returns-then-now-end
returns-then-now-end c h stands =
    let early : c.args.moment < series_end c.in-Some.terms.now c.args.payment.now.claim.epoch = omega (arith, c.if-now-end.true, c.seconds-now.ensures.seconds, c.series_end-end.ensures) in
    says_no _ (not_ended h c.args.moment c.args.payment.now c.in-Some.terms.now (sym (c.in-Some.ensures h stands)) early)

pub returns-then-is_some : goal.returns-then-is_some
returns-then-is_some c h stands =
    says_no _ (paid_already h c.args.moment c.args.payment.now (ap is_some (sym (c.paid.ensures h stands)) ∙ sym c.if-is_some.ensures))

pub returns : goal.returns
returns c h stands =
    let p = c.args.payment.now in
    let terms = c.in-Some.terms.now in
    let ended : series_end terms p.claim.epoch ≤ c.args.moment = omega (arith, c.if-now-end.false, c.seconds-now.ensures.seconds, c.series_end-end.ensures) in
    let sold = c.sold.ensures h stands in (
      λ ok. pays h c.args.moment p terms (sym (c.in-Some.ensures h stands)) c.sold.result sold (sym c.issuer.ensures ∙ c.if-issuer-claim.false) ended
          (ap is_some (sym (c.paid.ensures h stands)) ∙ sym c.if-is_some.ensures) (leb-true p.claim.amount c.sold.result ok),
      λ order. let covered = order.covered in le-leb p.claim.amount c.sold.result (omega (arith, covered, sold)),
    )
