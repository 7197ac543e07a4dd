use Rattle.std.proofs.Common.{refl}
use Rattle.mc_records.specs.Views.{entry}
use Rattle.audit_sums.specs.Rows.{licence_of, stocked_of}
use Rattle.audit_sums.proofs.Steps.{after_ok, rows_more, lists_more, sales_more}
use Rattle.audit_sums.proofs.market.Market.learn.Goals as goal

pub returns : goal.returns
returns c h shows =
    let e = entry c.args.r.now in
    after_ok c.put_stock.result (λ is. record {
      sales' = sales_more h e _ _ c.read.result shows.sales' c.read.ensures c.in_ok-put.ensures;
      licences' = rows_more licence_of h e _ _ (licence_of e) shows.licences' refl c.in_ok-put_licence.ensures;
      stock' = lists_more stocked_of h e _ _ shows.stock' is;
    }) c.put_stock.ensures
