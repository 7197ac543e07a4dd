use Rattle.std.proofs.Common.{option_map, sym, ap, ◌∙◌}
use Rattle.vendor_core.specs.Editions.{sold_by}
use Rattle.vendor_core.proofs.ShelfLaws.{goods_sold, no_goods}
use Rattle.vendor_core.proofs.shelf.Shelf.goods.Goals as goal

pub returns-in-Some-clause-goods : goal.returns-in-Some-clause-goods
returns-in-Some-clause-goods c h stands =
    goods_sold _ c.in-Some.edition.now _ _ c.body.ensures.brings (stands.0.of_goods.sells c.args.target.now ∙ ap (option_map sold_by) (sym c.in-Some.ensures.edition))

pub returns-in-None-clause-goods : goal.returns-in-None-clause-goods
returns-in-None-clause-goods c h stands =
    no_goods _ (stands.0.of_goods.sells c.args.target.now ∙ ap (option_map sold_by) (sym c.in-None.ensures.edition))
