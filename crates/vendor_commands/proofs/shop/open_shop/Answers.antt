use Rattle.std.proofs.Common.{[], ◌∷◌, ◌∙◌}
use Rattle.vendor_commands.specs.Opening.{founding, licence}
use Rattle.vendor_commands.proofs.OpeningLemmas.{may_enter, licence_is, shop_goods_is, licence_may_enter, shop_goods_may_enter, open_with, open_last}
use Rattle.vendor_commands.proofs.shop.open_shop.Goals as goal

pub entered-requires-clause-may : goal.entered-requires-clause-may
entered-requires-clause-may c =
    let shop = c.args.shop.now in
    (founding shop ∷ [], c.in_ok-found_shop.ensures, may_enter (licence_is shop c.start-2.ensures (c.of.ensures ∙ c.terms_of-terms.ensures)) (licence_may_enter shop c.target.ensures.range))

pub entered-requires-2-clause-may : goal.entered-requires-2-clause-may
entered-requires-2-clause-may c =
    let shop = c.args.shop.now in (
      founding shop ∷ licence shop ∷ [],
      open_with (founding shop ∷ []) (licence_is shop c.start-2.ensures (c.of.ensures ∙ c.terms_of-terms.ensures)) (c.in_ok-bench.ensures (founding shop ∷ []) c.in_ok-found_shop.ensures),
      may_enter (shop_goods_is shop c.start.ensures (c.bytes.ensures.value ∙ c.target.ensures.value) (c.get.ensures.units ∙ c.price.ensures.value) c.contents.ensures.value) (shop_goods_may_enter shop c.target.ensures.range),
    )

pub returns : goal.returns
returns c =
    let shop = c.args.shop.now in
    let licensed = open_with (founding shop ∷ []) (licence_is shop c.start-2.ensures (c.of.ensures ∙ c.terms_of-terms.ensures)) (c.in_ok-bench.ensures (founding shop ∷ []) c.in_ok-found_shop.ensures) in
    open_last (founding shop ∷ licence shop ∷ []) (shop_goods_is shop c.start.ensures (c.bytes.ensures.value ∙ c.target.ensures.value) (c.get.ensures.units ∙ c.price.ensures.value) c.contents.ensures.value) c.in_ok-bench.bench licensed
    c.entered-2.result c.entered-2.ensures
