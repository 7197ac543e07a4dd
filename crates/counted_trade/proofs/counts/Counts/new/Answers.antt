use Rattle.std.proofs.Common.{sym, ◌++◌}
use Rattle.counted_trade.specs.Series.{series_key}
use Rattle.counted_trade.proofs.counts.Counts.new.Goals as goal

pub returns : goal.returns
returns c = record {
  terms' = sym c.new.ensures.items;
  licences' = c.new-2.ensures;
  sums' = c.new-3.ensures;
  stated' = record { is = λ issuer epoch byte three. c.new-4.ensures.sums (series_key issuer epoch) };
  paid' = record { is = λ vendor issuer epoch byte three. c.new-5.ensures.sums (series_key issuer epoch ++ vendor) };
  in_order = tt;
}
