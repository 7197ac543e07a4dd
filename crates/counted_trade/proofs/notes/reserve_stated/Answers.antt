use Rattle.std.proofs.Common.{◌∙◌}
use Rattle.counted_trade.specs.Series.{series_key}
use Rattle.counted_trade.proofs.notes.reserve_stated.Goals as goal

pub returns-in-Some-clause-same : goal.returns-in-Some-clause-same
returns-in-Some-clause-same c h stands = record {
  is = λ issuer epoch byte three. c.reserve.ensures.sums (series_key issuer epoch) ∙ stands.is issuer epoch byte three;
}
