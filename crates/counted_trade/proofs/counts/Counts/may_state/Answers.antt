use Rattle.std.proofs.Common.{◌≡◌, ◌≤◌, ◌<◌, false, None, Some, List, sym, ap, ◌∙◌, arith}
use Rattle.std.specs.Prelude.{is_some}
use Rattle.scrip_form.specs.Issuing.{Issuing, series_end}
use Rattle.ledger_model.specs.Houses.{terms_by, terms_in}
use Rattle.counted_trade.proofs.OrderLaws.{says_no, unlicensed, open_series, stated_already, states}
use Rattle.counted_trade.proofs.counts.Counts.may_state.Goals as goal

pub returns-in_default : goal.returns-in_default
returns-in_default c h stands =
    let claim = c.args.claim.now in
    let none : terms_in h claim.issuer ≡ None = ap (λ (ts : List Issuing). terms_by ts claim.issuer) (stands.terms' ∙ sym c.deref.ensures.value) ∙ sym c.in_default.ensures in
    says_no _ (unlicensed h c.args.moment claim none)

pub returns-then-now-end : goal.returns-then-now-end
returns-then-now-end c h stands =
    let claim = c.args.claim.now in
    let stand : terms_in h claim.issuer ≡ Some c.in-Some.terms.now = ap (λ (ts : List Issuing). terms_by ts claim.issuer) (stands.terms' ∙ sym c.deref.ensures.value) ∙ sym c.in-Some.ensures in
    let early : c.args.moment < series_end c.in-Some.terms.now claim.epoch = omega (arith, c.if-now-end.true, c.seconds-now.ensures.seconds, c.series_end-end.ensures) in
    says_no _ (open_series h c.args.moment claim c.in-Some.terms.now stand early)

pub returns-then-is_some : goal.returns-then-is_some
returns-then-is_some c h stands =
    let claim = c.args.claim.now in
    says_no _ (stated_already h c.args.moment claim (ap is_some (sym (c.stated.ensures h stands)) ∙ sym c.if-is_some.ensures))

pub returns : goal.returns
returns c h stands =
    let claim = c.args.claim.now in
    let stand : terms_in h claim.issuer ≡ Some c.in-Some.terms.now = ap (λ (ts : List Issuing). terms_by ts claim.issuer) (stands.terms' ∙ sym c.deref.ensures.value) ∙ sym c.in-Some.ensures in
    let ended : series_end c.in-Some.terms.now claim.epoch ≤ c.args.moment = omega (arith, c.if-now-end.false, c.seconds-now.ensures.seconds, c.series_end-end.ensures) in
    states h c.args.moment claim c.in-Some.terms.now stand c.redeemed.result (c.redeemed.ensures h stands) ended (ap is_some (sym (c.stated.ensures h stands)) ∙ sym c.if-is_some.ensures)
