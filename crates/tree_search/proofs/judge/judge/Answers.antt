use Rattle.std.proofs.Common.{◌≡◌, Some, sym, ap, ◌∙◌}
use Rattle.name_places.specs.NamePlaces.{place_of}
use Rattle.audit_model.specs.Strangers.{first_of}
use Rattle.relayed_books.specs.Tree.{is_genuine, sold_stranger}
use Rattle.tree_search.specs.Marks.{MarksShow}
use Rattle.tree_search.specs.Verdicts.{verdict_on}
use Rattle.tree_search.proofs.JudgeLaws.{with_piece, has_piece, sold_nothing, is_sale, has_place, verdict_is, behind, behind_none}
use Rattle.tree_search.proofs.judge.judge.Goals as goal

pub returns-in-None-clause-told : goal.returns-in-None-clause-told
returns-in-None-clause-told c = λ bs vs h earlier named stand places any lic show.
    sym (ap (λ o. first_of (sold_stranger (is_genuine bs vs) earlier o)) (sold_nothing h vs c.args.shops.now c.args.sale.now stand any (sym c.piece.ensures ∙ c.in-None.is)))

pub returns-in-None-clause-shows : goal.returns-in-None-clause-shows
returns-in-None-clause-shows c = λ vs h earlier named stand places any show.
    behind_none (MarksShow c.args.marks.now c.args.names.now) h vs c.args.shops.now c.args.sale.now earlier stand any (sym c.piece.ensures ∙ c.in-None.is) show

pub returns-in-None-get-clause-told : goal.returns-in-None-get-clause-told
returns-in-None-get-clause-told c = λ bs vs h earlier named stand places any lic show.
    absurd (has_place vs c.args.names.now c.args.sale.now.vendor places any (ap (place_of c.args.names.now) (sym c.bytes.ensures.value) ∙ sym c.get.ensures ∙ c.in-None-get.is))

pub returns-in-None-get-clause-shows : goal.returns-in-None-get-clause-shows
returns-in-None-get-clause-shows c = λ vs h earlier named stand places any show.
    absurd (has_place vs c.args.names.now c.args.sale.now.vendor places any (ap (place_of c.args.names.now) (sym c.bytes.ensures.value) ∙ sym c.get.ensures ∙ c.in-None-get.is))

pub returns-clause-told : goal.returns-clause-told
returns-clause-told c = λ bs vs h earlier named stand places any lic show.
    let s = c.args.sale.now in
    let part = c.in-Some.part in
    let shops = c.args.shops.now in
    let r = has_piece h vs shops s part stand any (sym c.piece.ensures ∙ c.in-Some.is) in
    let at : place_of c.args.names.now s.vendor ≡ Some c.in-Some-get.place = ap (place_of c.args.names.now) (sym c.bytes.ensures.value) ∙ sym c.get.ensures ∙ c.in-Some-get.is in
    c.verdict.ensures
    ∙ ap (λ b. verdict_on b c.in_ok-barred.barred part.id) c.is_genuine-real.ensures
    ∙ verdict_is bs vs h earlier shops c.args.licences.now c.args.names.now c.in-Some-get.place s part r c.args.broker.now c.in_ok-barred.barred named stand any lic at
    (c.in_ok-barred.ensures.barred c.args.names.now earlier (with_piece h s r.piece) show at (is_sale h s part r))

pub returns-clause-shows : goal.returns-clause-shows
returns-clause-shows c = λ vs h earlier named stand places any show.
    let s = c.args.sale.now in
    let part = c.in-Some.part in
    let r = has_piece h vs c.args.shops.now s part stand any (sym c.piece.ensures ∙ c.in-Some.is) in
    let at : place_of c.args.names.now s.vendor ≡ Some c.in-Some-get.place = ap (place_of c.args.names.now) (sym c.bytes.ensures.value) ∙ sym c.get.ensures ∙ c.in-Some-get.is in
    behind (MarksShow c.see.new.self c.args.names.now) h s part r earlier
    (c.in_ok-barred.ensures.shows c.args.names.now earlier (with_piece h s r.piece) places.apart show at (is_sale h s part r))
