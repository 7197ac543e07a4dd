use Rattle.std.proofs.Common.{◌≡◌, ◌∙◌, ap, sum_by}
use Rattle.ledger_model.specs.Sums.{handed_out, outstanding, lapsed}
use Rattle.audit_model.specs.Parts.{still_out, gone_by}
use Rattle.audit_model.specs.Sums.{vendor_sums}
use Rattle.audit_model.proofs.Left.{same_vendor, outstanding_is, lapsed_is}
use Rattle.slow_sums.proofs.vendor.slow_vendor.Goals as goal

pub returns : goal.returns
returns c =
    let b = c.args.broker.now in
    let v = c.args.h.now in
    let handed = handed_out b v in
    let out : c.in_ok-slow_outstanding.field-0 ≡ outstanding handed v =
    c.in_ok-slow_outstanding.ensures ∙ ap (sum_by (still_out v)) (c.deref.ensures.value ∙ c.in_ok-parts.ensures) ∙ outstanding_is v handed in
    let gone : c.in_ok-slow_lapsed.field-0 ≡ lapsed handed v =
    c.in_ok-slow_lapsed.ensures ∙ ap (sum_by (gone_by v)) (c.deref-2.ensures.value ∙ c.in_ok-parts.ensures) ∙ lapsed_is v handed in
    same_vendor _ (vendor_sums b v) (c.in-Some.ensures.value ∙ c.slow_name.ensures) c.in_ok-slow_takings.ensures out gone
