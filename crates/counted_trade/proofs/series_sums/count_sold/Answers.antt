use Rattle.std.proofs.Common.{Option, option_map, sym, ap, subst, ◌∙◌, arith}
use Rattle.mc_records.specs.Views.{entry}
use Rattle.audit_model.specs.declared.sold.Sold.{Sold}
use Rattle.audit_model.specs.Sales.{sale_by}
use Rattle.counted_trade.proofs.KeyLaws.{Adds}
use Rattle.counted_trade.proofs.SoldLaws.{counted_sale, counted_no_sale}
use Rattle.counted_trade.proofs.series_sums.count_sold.Goals as goal

pub returns-in-Some : goal.returns-in-Some
returns-in-Some c = record {
  counted = λ h counts long.
      counted_sale c.args.sums.now c.add.new.self h (entry c.args.r.now) c.in-Some.sale c.args._number c.ranges._number.fits (omega arith) long counts
      (sym c.licensed_in.ensures ∙ ap (λ (o : Option Sold). option_map sale_by o) c.in-Some.is) c.requires.room
      (subst (Adds c.args.sums.now c.add.new.self) c.from.ensures c.add.ensures.sums);
}

pub returns-in-None : goal.returns-in-None
returns-in-None c = record {
  counted = λ h counts long. counted_no_sale c.args.sums.now h (entry c.args.r.now) counts (sym c.licensed_in.ensures ∙ ap (λ (o : Option Sold). option_map sale_by o) c.in-None.is);
}
