use Rattle.std.proofs.Common.{ℕ, refl, sym, subst}
use Rattle.std.specs.Prelude.{◌↔◌, IsTrue}
use Rattle.mc_records.specs.Entry.{moment_of}
use Rattle.mc_records.specs.Views.{entry}
use Rattle.settle_core.specs.Claims.{claim_of}
use Rattle.settle_core.specs.Settlement.{stated_bytes, StatedInOrder}
use Rattle.counted_trade.proofs.OrderLaws.{says_no, no_bytes, no_text, by_text}
use Rattle.counted_trade.proofs.counts.Counts.allows_statement.Goals as goal

pub returns-in_default : goal.returns-in_default
returns-in_default c h stands =
    let e = entry c.args.r.now in
    (λ ok. no_bytes claim_of (StatedInOrder h (moment_of e)) (stated_bytes e) (sym c.in_default.ensures), λ any. refl)

pub returns-in-Some-read_claim : goal.returns-in-Some-read_claim
returns-in-Some-read_claim c h stands =
    let e = entry c.args.r.now in
    let claim = c.in-Some-read_claim.claim in
    let both = by_text claim_of (StatedInOrder h (moment_of e)) (stated_bytes e) c.in-Some.bytes.now (sym c.in-Some.ensures) claim (sym c.in-Some-read_claim.ensures.read) in
    let may = subst (λ (m : ℕ). IsTrue c.may_state.result ↔ StatedInOrder h m claim) c.moment.ensures (c.may_state.ensures h stands) in
    (λ ok. both.0 (may.0 ok), λ order. may.1 (both.1 order))

pub returns-in-None : goal.returns-in-None
returns-in-None c h stands =
    let e = entry c.args.r.now in
    says_no _ (no_text claim_of (StatedInOrder h (moment_of e)) (stated_bytes e) c.in-Some.bytes.now (sym c.in-Some.ensures) (sym c.in-None.ensures.read))
