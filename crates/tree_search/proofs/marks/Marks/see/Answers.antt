use Rattle.std.proofs.Common.{◌≡◌, Option, ap, ◌∙◌}
use Rattle.tree_search.specs.declared.marks.Mark.{Mark}
use Rattle.tree_search.specs.declared.marks.Marks.{Marks}
use Rattle.tree_search.specs.Marks.{mark_at, barred_by, mark_with}
use Rattle.tree_search.proofs.MarkLaws.{barred_is, with_sale, put_mark}
use Rattle.tree_search.proofs.marks.Marks.see.Goals as goal

pub returns-clause-barred : goal.returns-clause-barred
returns-clause-barred c = λ places earlier s show at is.
    let had : c.copied.result ≡ mark_at c.args.self.now c.args.place c.args.part.id = c.copied.ensures ∙ c.get.ensures.value ∙ ap (mark_at c.args.self.now c.args.place) c.number-id.ensures in
    c.next-barred.ensures.barred ∙ ap (λ (o : Option Mark). barred_by o c.args.part.value c.args.stock) had
    ∙ barred_is c.args.self.now places c.args.place c.args.part c.args.stock earlier s show at is

pub returns-clause-shows : goal.returns-clause-shows
returns-clause-shows c = λ places earlier s apart show at is.
    let had : c.copied.result ≡ mark_at c.args.self.now c.args.place c.args.part.id = c.copied.ensures ∙ c.get.ensures.value ∙ ap (mark_at c.args.self.now c.args.place) c.number-id.ensures in
    let mark : c.next-barred.result.1 ≡ mark_with (mark_at c.args.self.now c.args.place c.args.part.id) c.args.part.value c.args.stock =
    c.next-barred.ensures.mark ∙ ap (λ (o : Option Mark). mark_with o c.args.part.value c.args.stock) had in
    let new : Marks = record { marks = c.insert.new.self } in
    with_sale c.args.self.now new places c.args.place c.args.part c.args.stock earlier s apart show at is
    (λ p id. put_mark c.args.self.now new c.args.place c.args.part.id c.number-id.result p id c.next-barred.result.1 _ c.number-id.ensures mark (c.in_ok-insert.ensures.updates.0 (p, id)))
