use Rattle.std.proofs.Common.{ℕ, refl, sym, subst}
use Rattle.std.specs.Prelude.{◌↔◌, IsTrue}
use Rattle.mc_records.specs.Entry.{moment_of}
use Rattle.mc_records.specs.Views.{entry}
use Rattle.settle_core.specs.Claims.{payment_of}
use Rattle.settle_core.specs.Settlement.{paid_bytes, PaidInOrder}
use Rattle.counted_trade.proofs.OrderLaws.{says_no, no_bytes, no_text, by_text}
use Rattle.counted_trade.proofs.counts.Counts.allows_payment.Goals as goal

pub returns-in_default : goal.returns-in_default
returns-in_default c h stands =
    let e = entry c.args.r.now in
    (λ ok. no_bytes payment_of (PaidInOrder h (moment_of e)) (paid_bytes e) (sym c.in_default.ensures), λ any. refl)

pub returns-in-Some-read_payment : goal.returns-in-Some-read_payment
returns-in-Some-read_payment c h stands =
    let e = entry c.args.r.now in
    let payment = c.in-Some-read_payment.payment in
    let both = by_text payment_of (PaidInOrder h (moment_of e)) (paid_bytes e) c.in-Some.bytes.now (sym c.in-Some.ensures) payment (sym c.in-Some-read_payment.ensures.read) in
    let may = subst (λ (m : ℕ). IsTrue c.may_pay.result ↔ PaidInOrder h m payment) c.moment.ensures (c.may_pay.ensures h stands) in
    (λ ok. both.0 (may.0 ok), λ order. may.1 (both.1 order))

pub returns-in-None : goal.returns-in-None
returns-in-None c h stands =
    let e = entry c.args.r.now in
    says_no _ (no_text payment_of (PaidInOrder h (moment_of e)) (paid_bytes e) c.in-Some.bytes.now (sym c.in-Some.ensures) (sym c.in-None.ensures.read))
