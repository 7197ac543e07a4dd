use Rattle.std.proofs.Common.{Some, None, option_map, sym, ap, ◌∙◌}
use Rattle.vendor_core.specs.Editions.{sold_by}
use Rattle.vendor_core.proofs.ShelfLaws.{some_number, price_sold}
use Rattle.vendor_core.proofs.shelf.ShelfTrade.price.Goals as goal

pub returns-in-Some : goal.returns-in-Some
returns-in-Some c h stands kind =
    ap some_number c.price.ensures
    ∙ price_sold h c.args.target.now (Some c.in-Some.edition.now) kind (stands.0.of_goods.sells c.args.target.now ∙ ap (option_map sold_by) (sym c.in-Some.ensures.edition))

pub returns-in-None : goal.returns-in-None
returns-in-None c h stands kind =
    price_sold h c.args.target.now None kind (stands.0.of_goods.sells c.args.target.now ∙ ap (option_map sold_by) (sym c.in-None.ensures.edition))
