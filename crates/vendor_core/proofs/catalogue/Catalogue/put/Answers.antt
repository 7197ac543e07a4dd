use Rattle.std.proofs.Common.{◌≡◌, ℕ, List, Some, cond, bytes_eq, eqb, ap, ◌∙◌}
use Rattle.name_places.specs.NamePlaces.{NamePlacesView, place_of}
use Rattle.vendor_core.specs.declared.edition.Article.{Article}
use Rattle.vendor_core.specs.Editions.{edition_of}
use Rattle.vendor_core.proofs.CatalogueLaws.{goods_put}
use Rattle.vendor_core.proofs.catalogue.Catalogue.put.Goals as goal

pub returns-clause-learned : goal.returns-clause-learned
returns-clause-learned c h m stands is =
    let old = c.args.self.now in
    let puts : (q : ℕ) → edition_of c.insert.new.self.entries q ≡ cond (eqb c.args.number q) (Some c.args.article) (edition_of old.editions.entries q) =
    λ q. c.in-Ok.ensures.updates.0 q ∙ ap (λ (a : Article). cond (eqb c.args.number q) (Some a) (edition_of c.replace.new.self.editions.entries q)) c.new.ensures
    ∙ ap (λ m. cond (eqb c.args.number q) (Some c.args.article) (edition_of m.entries q)) c.replace.ensures.editions in
    let room = ap (λ (v : NamePlacesView). v.room) c.replace.ensures.on_sale ∙ c.requires.room.name in
    let names : (t : List ℕ) → place_of c.put.new.self t ≡ cond (bytes_eq t c.args.target.now) (Some c.args.number) (place_of old.on_sale t) =
    λ t. c.put.ensures.places c.args.target.now room t ∙ ap (λ (v : NamePlacesView). cond (bytes_eq t c.args.target.now) (Some c.args.number) (place_of v t)) c.replace.ensures.on_sale in
    rw c.replace.ensures.replaced
    (goods_put h m c.args.number c.args.target.now c.args.article old.editions.entries c.insert.new.self.entries old.on_sale c.put.new.self old.replaced.items is puts names stands)
