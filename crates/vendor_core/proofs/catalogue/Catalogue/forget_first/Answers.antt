use Rattle.std.proofs.Common.{◌<◌, List, length, subst, refl, arith}
use Rattle.vendor_core.specs.declared.catalogue.Replaced.{Replaced}
use Rattle.vendor_core.specs.Editions.{ShowsGoods}
use Rattle.vendor_core.proofs.CatalogueLaws.{front_split, goods_taken}
use Rattle.vendor_core.proofs.catalogue.Catalogue.forget_first.Goals as goal

pub returns-clause-same : goal.returns-clause-same
returns-clause-same c h stands =
    let queue = c.args.self.now.replaced in
    let some : 0 < length queue.items = omega (arith, c.in-Some.ensures.variant.0 refl, queue.ok.0) in
    let split = front_split queue.items c.pop_front.new.self.items c.in-Some.field-0.now some c.in-Some.ensures.lookup c.pop_front.ensures.rest in
    goods_taken c.args.self.now.editions.entries c.remove.new.self.entries c.args.self.now.on_sale c.in-Some.field-0.now c.pop_front.new.self.items h
    c.remove.ensures.updates.0 (subst (λ (rs : List Replaced). ShowsGoods c.args.self.now.editions.entries c.args.self.now.on_sale rs h) split stands)
