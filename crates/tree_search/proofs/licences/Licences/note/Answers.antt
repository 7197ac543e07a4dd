use Rattle.std.proofs.Common.{◌≡◌, Some, sym, ap, ◌∙◌, subst}
use Rattle.name_places.specs.NamePlaces.{place_of}
use Rattle.tree_search.specs.Marks.{IsSale, LicencesShow}
use Rattle.tree_search.proofs.JudgeLaws.{with_piece, has_piece, is_sale, has_place, none_noted, licensed_one, behind}
use Rattle.tree_search.proofs.licences.Licences.note.Goals as goal

pub returns-in-None : goal.returns-in-None
returns-in-None c = λ vs h sales named stand places any show.
    none_noted h vs c.args.shops.now c.args.self.now c.args.names.now sales c.args.sale.now stand any show (sym c.licensed_piece.ensures ∙ c.in-None.is)

pub returns-in-None-get : goal.returns-in-None-get
returns-in-None-get c = λ vs h sales named stand places any show.
    absurd (has_place vs c.args.names.now c.args.sale.now.vendor places any (ap (place_of c.args.names.now) (sym c.bytes.ensures.value) ∙ sym c.get.ensures ∙ c.in-None-get.is))

pub returns : goal.returns
returns c = λ vs h sales named stand places any show.
    let s = c.args.sale.now in
    let part = c.in-Some.part in
    let one = licensed_one c.args.shops.now s part (sym c.licensed_piece.ensures ∙ c.in-Some.is) in
    let r = has_piece h vs c.args.shops.now s part stand any one.1 in
    let at : place_of c.args.names.now s.vendor ≡ Some c.in-Some-get.place = ap (place_of c.args.names.now) (sym c.bytes.ensures.value) ∙ sym c.get.ensures ∙ c.in-Some-get.is in
    behind (LicencesShow c.put.new.self c.args.names.now) h s part r sales
    (c.in_ok-put.ensures c.args.names.now sales (with_piece h s r.piece) places.apart show at (subst (λ b. IsSale part b (with_piece h s r.piece)) one.0 (is_sale h s part r)) named)
