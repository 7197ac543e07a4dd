use Rattle.std.proofs.Common.{ℕ, Option, ap, ◌∙◌, unwrap_or}
use Rattle.counted_trade.specs.Series.{series_key}
use Rattle.counted_trade.proofs.series_sums.reserve_paid.Goals as goal

pub returns-in-Some-clause-same : goal.returns-in-Some-clause-same
returns-in-Some-clause-same c = λ h counts. record {
  is = λ issuer epoch byte three.
      ap (λ (o : Option ℕ). unwrap_or o 0) (c.reserve.ensures.sums (series_key issuer epoch)) ∙ counts.is issuer epoch byte three;
}
