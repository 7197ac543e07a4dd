use Rattle.std.proofs.Common.{◌≡◌, Option, [], ◌∷◌, ◌++◌, sym, ap, subst, ◌∙◌, arith}
use Rattle.std.specs.Prelude.{IfSome}
use Rattle.vendor_core.specs.declared.edition.Article.{Article}
use Rattle.mc_records.specs.Entry.{Entry, Goods}
use Rattle.ledger_model.specs.Goods.{in_force}
use Rattle.vendor_core.specs.Editions.{goods_entry, sold_at, IsInRange}
use Rattle.vendor_core.proofs.ShelfLaws.{goods_learned, article_is}
use Rattle.vendor_core.proofs.TargetLaws.{is_new, targets_listed}
use Rattle.vendor_core.proofs.shelf.Shelf.learn_goods.Goals as goal

pub returns-clause-learned : goal.returns-clause-learned
returns-clause-learned c h m price kind stands is ready =
    let same : goods_entry m c.args.target.now c.unwrap-article.result ≡ Goods m c.args.target.now price kind c.args.contents.now =
    article_is m _ _ _ c.unwrap-article.result (sym c.take.ensures.value ∙ c.unwrap-article.ensures) ready in
    let bytes : c.in_force_with-bytes.result ≡ in_force (h ++ goods_entry m c.args.target.now c.unwrap-article.result ∷ []) = c.in_force_with-bytes.ensures h m price kind stands ∙ ap (λ (e : Entry). in_force (h ++ e ∷ [])) (sym same) in
    rw (← same) (
      goods_learned _ _ _ _ _ _ c.in_force_with-bytes.result h m c.args.target.now c.unwrap-article.result (c.put.ensures.learned h m stands.0.of_goods is) bytes (omega arith) stands.0,
      targets_listed h m _ _ c.args.target.now _ (sold_at c.args.self.now.catalogue.editions.entries c.args.self.now.catalogue.on_sale c.args.target.now) c.is_none-is_new.result c.args.self.now.targets.listed c.list.new.self.listed (stands.0.of_goods.sells c.args.target.now)
          (is_new (λ p. p.1.now) c.sold.result _ c.is_none-is_new.result c.is_none-is_new.ensures c.sold.ensures.edition) stands.1 (c.list.ensures c.args.target.now c.requires.target),
    )

pub put-requires-clause-range : goal.put-requires-clause-range
put-requires-clause-range c = subst (λ (o : Option Article). IfSome o IsInRange) (sym c.take.ensures.value ∙ c.unwrap-article.ensures) c.requires.range
