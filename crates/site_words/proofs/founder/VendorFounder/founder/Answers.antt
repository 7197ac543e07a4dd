use Rattle.std.proofs.Common.{ap, rules}
use Rattle.site_words.proofs.founder.VendorFounder.founder.Goals as goal

pub invariant_of-result : goal.invariant_of-result
invariant_of-result c =
    let are = c.terms_of.ensures.range in
    (ap (λ t. t.issuer) c.terms_of.ensures.value, record { name = c.bytes-name.ensures.name; terms = record { period = are.period; scrip = are.scrip; customer = are.customer }; fee = search rules; keep = c.kept.ensures.range })
