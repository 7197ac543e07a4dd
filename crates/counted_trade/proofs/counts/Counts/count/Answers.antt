use Rattle.std.proofs.Common.{[]}
use Rattle.mc_records.specs.Views.{entry}
use Rattle.settle_core.specs.Settlement.{IsInOrder}
use Rattle.settle_core.proofs.Walks.{follow_last}
use Rattle.counted_trade.proofs.counts.Counts.count.Goals as goal

pub returns : goal.returns
returns c = record {
  counted = λ h counts long order. record {
    terms' = c.count_terms.ensures.counted h counts.terms';
    licences' = c.count.ensures.counted h counts.licences';
    sums' = c.count-2.ensures.counted h counts.sums' long;
    stated' = c.count_stated.ensures.counted h counts.stated' order;
    paid' = c.count_paid.ensures.counted h counts.paid' order;
    in_order = follow_last IsInOrder [] h (entry c.args.r.now) counts.in_order order;
  };
}
