use Rattle.std.proofs.Common.{ap, arith}
use Rattle.site_words.proofs.founder.BrokerFounder.founder.Goals as goal

pub invariant_of-result : goal.invariant_of-result
invariant_of-result c =
    let are = c.terms_of.ensures.range in (
      ap (λ t. t.issuer) c.terms_of.ensures.value,
      record { name = c.bytes-name.ensures.name; terms = record { period = are.period; scrip = are.scrip; customer = are.customer }; fee = omega (arith, c.amount.ensures.value, c.amount.ensures.range.most'); keep = c.kept.ensures.range },
    )
