use Rattle.std.proofs.Common.{◌≡◌, Option, option_map, ap, ◌∙◌}
use Rattle.tree_search.specs.declared.licences.Seller.{Seller}
use Rattle.tree_search.specs.declared.licences.Licences.{Licences}
use Rattle.tree_search.specs.Marks.{seller_at, seller_view, sold_also}
use Rattle.tree_search.proofs.LicenceLaws.{with_licence, put_seller}
use Rattle.tree_search.proofs.licences.Licences.put.Goals as goal

pub returns : goal.returns
returns c = λ places sales s apart show at is named.
    let old = c.args.self.now in
    let new : Licences = record { sellers = c.insert.new.self } in
    let part = c.args.part in
    let had : c.copied.result ≡ seller_at old c.args.place part.id part.value = c.copied.ensures ∙ c.get.ensures.value ∙ ap (λ id. seller_at old c.args.place id part.value) c.number-id.ensures in
    with_licence old new places c.args.place part sales s c.args.broker.now c.also-seller.result apart show at is named
    (c.also-seller.ensures ∙ ap (λ (o : Option Seller). sold_also (option_map seller_view o) c.args.broker.now) had)
    (λ p id value. put_seller old new c.args.place part.id c.number-id.result part.value p id value c.also-seller.result c.number-id.ensures (c.in_ok-insert.ensures.updates.0 ((p, id), value)))
