use Rattle.std.proofs.Common.{Some, None, Option, option_map, sym, ap, ◌∙◌}
use Rattle.vendor_core.specs.declared.shelf.OnSale.{OnSale}
use Rattle.vendor_core.specs.Editions.{sold_by}
use Rattle.vendor_core.proofs.TargetLaws.{on_sale_is}
use Rattle.vendor_core.proofs.shelf.Shelf.on_sale.Goals as goal

pub returns-in-Some : goal.returns-in-Some
returns-in-Some c h stands =
    let some : OnSale → Option OnSale = λ s. Some s in
    ap some c.on_sale.ensures ∙ on_sale_is _ (Some c.in-Some.edition.now) (stands.0.of_goods.sells c.args.target.now ∙ ap (option_map sold_by) (sym c.in-Some.ensures.edition))

pub returns-in-None : goal.returns-in-None
returns-in-None c h stands = on_sale_is _ None (stands.0.of_goods.sells c.args.target.now ∙ ap (option_map sold_by) (sym c.in-None.ensures.edition))
