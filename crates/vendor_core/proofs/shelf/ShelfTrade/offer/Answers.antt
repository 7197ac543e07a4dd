use Rattle.std.proofs.Common.{Some, None, option_map, sym, ap, ◌∙◌, arith}
use Rattle.vendor_core.specs.Editions.{sold_by}
use Rattle.vendor_core.proofs.ShelfLaws.{offer_is, shelf_low, shelf_high, sold_is_brought, sold_is_in_force, sold_is_held}
use Rattle.vendor_core.proofs.shelf.ShelfTrade.offer.Goals as goal

pub returns-in_default-clause-offer : goal.returns-in_default-clause-offer
returns-in_default-clause-offer c h stands kind =
    sym (offer_is h c.args._time c.args._limits c.args.target.now c.args.value None kind (stands.0.of_goods.sells c.args.target.now ∙ ap (option_map sold_by) (sym c.in_default.ensures.edition)))

pub returns-then-get-price-clause-offer : goal.returns-then-get-price-clause-offer
returns-then-get-price-clause-offer c h stands kind =
    rw c.price-price.ensures
    (sym (offer_is h c.args._time c.args._limits c.args.target.now c.args.value (Some c.in-Some.edition.now) kind (stands.0.of_goods.sells c.args.target.now ∙ ap (option_map sold_by) (sym c.in-Some.ensures.edition))
    ∙ shelf_low _ _ (omega (arith, c.if-get-price.true, c.get.ensures.units, c.price-price.ensures))))

pub returns-clause-offer : goal.returns-clause-offer
returns-clause-offer c h stands kind =
    rw c.price-price.ensures
    (sym (offer_is h c.args._time c.args._limits c.args.target.now c.args.value (Some c.in-Some.edition.now) kind (stands.0.of_goods.sells c.args.target.now ∙ ap (option_map sold_by) (sym c.in-Some.ensures.edition))
    ∙ shelf_high _ _ (omega (arith, c.if-get-price.false, c.get.ensures.units, c.price-price.ensures))))

pub returns-clause-brings : goal.returns-clause-brings
returns-clause-brings c h stands kind =
    sold_is_brought c.args.self.now.catalogue h c.args.target.now c.in-Some.goods c.in-Some.edition.now stands.0.of_goods c.in-Some.ensures.number (sym c.in-Some.ensures.edition)

pub returns-clause-in_force : goal.returns-clause-in_force
returns-clause-in_force c h stands kind =
    sold_is_in_force c.args.self.now.catalogue h c.args.target.now c.in-Some.goods stands.0.of_goods c.in-Some.ensures.number

pub returns-clause-held : goal.returns-clause-held
returns-clause-held c =
    sold_is_held c.args.self.now.catalogue c.args.target.now c.in-Some.goods c.in-Some.edition.now c.in-Some.ensures.number (sym c.in-Some.ensures.edition)
