use Rattle.std.proofs.Common.{◌≡◌, Some, sym, ap, ◌∙◌, arith}
use Rattle.name_places.specs.NamePlaces.{place_of}
use Rattle.audit_search.specs.Filed.{place_in}
use Rattle.audit_search.proofs.FiledLaws.{shop_names, place_within, found_there, place_lacks}
use Rattle.audit_search.proofs.shops.Shops.find.Goals as goal

pub index-requires : goal.index-requires
index-requires c =
    let shops = c.args.self.now.list.items in
    let place : place_in (shop_names shops) c.args.name.now ≡ Some c.in-Some.place =
    sym (c.get.ensures ∙ ap (λ name. place_of c.args.self.now.places name) c.bytes.ensures.value ∙ c.args.self.now.filed c.args.name.now) ∙ c.in-Some.is in
    omega (arith, place_within shops c.args.name.now c.in-Some.place place, c.args.self.now.list.ok.0)

pub returns-in-Some : goal.returns-in-Some
returns-in-Some c =
    found_there c.args.self.now.list.items c.args.name.now c.in-Some.place c.index.result.now
    (sym (c.get.ensures ∙ ap (λ name. place_of c.args.self.now.places name) c.bytes.ensures.value ∙ c.args.self.now.filed c.args.name.now) ∙ c.in-Some.is) c.index.ensures

pub returns-in-None : goal.returns-in-None
returns-in-None c =
    sym (place_lacks c.args.self.now.list.items c.args.name.now
    (sym (c.get.ensures ∙ ap (λ name. place_of c.args.self.now.places name) c.bytes.ensures.value ∙ c.args.self.now.filed c.args.name.now) ∙ c.in-None.is))
