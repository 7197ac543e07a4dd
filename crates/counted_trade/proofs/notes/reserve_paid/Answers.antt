use Rattle.std.proofs.Common.{◌++◌, ◌∙◌}
use Rattle.counted_trade.specs.Series.{series_key}
use Rattle.counted_trade.proofs.notes.reserve_paid.Goals as goal

pub returns-in-Some-clause-same : goal.returns-in-Some-clause-same
returns-in-Some-clause-same c h stands = record {
  is = λ vendor issuer epoch byte three. c.reserve.ensures.sums (series_key issuer epoch ++ vendor) ∙ stands.is vendor issuer epoch byte three;
}
