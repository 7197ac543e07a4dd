use Rattle.std.proofs.Common.{◌≤◌, arith}
use Rattle.mc_records.specs.Entry.{AreSecrets}
use Rattle.issuer_terms.proofs.terms.terms_fit.Goals as goal

pub returns : goal.returns
returns c =
    let byte : c.args.terms.now.issuer ≤ 255 = omega (arith, c.issuer-issuer.type_inv, c.issuer-issuer.ensures) in
    let scrip : AreSecrets c.args.terms.now.scrip = rw (c.scrip.ensures.value) at c.secrets_have_keys.ensures in
    let customer : AreSecrets c.args.terms.now.customer = rw (c.customer.ensures.value) at c.secrets_have_keys-2.ensures in
    record { issuer = (c.requires, byte); period = c.period-period.ensures.ranges; scrip = scrip; customer = customer }
