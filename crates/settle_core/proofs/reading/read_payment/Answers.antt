use Rattle.std.proofs.Common.{ℕ, List, Some, refl, ap, ◌∙◌}
use Rattle.settle_core.specs.Claims.{of_vendor}
use Rattle.settle_core.proofs.PaymentReads.{no_vendor, read_so}
use Rattle.settle_core.proofs.reading.read_payment.Goals as goal

pub returns-in_default-clause-read : goal.returns-in_default-clause-read
returns-in_default-clause-read c =
    no_vendor c.args.bytes.now c.in_ok-vendor.vendor.now c.in_ok-vendor.rest.now c.in_ok-vendor.ensures (λ is. let no = c.in_default.ensures.valid.1 is in absurd cc)

pub returns-clause-read : goal.returns-clause-read
returns-clause-read c =
    let value = c.in-Some.ensures.value in
    ap (λ (v : List ℕ). Some (of_vendor v c.in_ok-claim.claim)) value
    ∙ read_so c.args.bytes.now c.in_ok-vendor.vendor.now c.in_ok-vendor.rest.now c.in_ok-claim.claim c.in_ok-vendor.ensures (c.in-Some.ensures.valid.0 refl) c.in_ok-claim.ensures.read
