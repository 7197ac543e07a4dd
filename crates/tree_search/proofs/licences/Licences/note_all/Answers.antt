use Rattle.std.proofs.Common.{◌≡◌, List, ◌++◌, ◌+◌, take, sym, ap, ◌∙◌, subst, append_assoc, append-nil, IsTrue}
use Rattle.std.specs.List.{AllByRecursion}
use Rattle.std.specs.Prelude.{filter_map, option_to_list}
use Rattle.std.proofs.lemmas.List.{take_all}
use Rattle.ledger_model.specs.Stock.{Sale}
use Rattle.audit_model.specs.declared.sold.Sold.{Sold as Row}
use Rattle.audit_model.specs.Sales.{sale_by}
use Rattle.audit_search.specs.Audit.{has_book}
use Rattle.relayed_books.specs.Tree.{Sold, sold_as}
use Rattle.tree_search.specs.Marks.{LicencesShow}
use Rattle.tree_search.specs.Desks.{sold_rows}
use Rattle.tree_search.proofs.JudgeLaws.{sold_rows_more, known_at}
use Rattle.tree_search.proofs.licences.Licences.note_all.Goals as goal

pub loop-sale-init : goal.loop-sale-init
loop-sale-init c = λ vs h before named stand places known show. subst (LicencesShow c.args.self.now c.args.names.now) (sym (append-nil before)) show

pub loop-sale-preserved : goal.loop-sale-preserved
loop-sale-preserved c = λ vs h before named stand places known show.
    let rows = c.args.sales.now in
    let i = c.loop-sale.sale-index in
    let s = c.sale-item.result in
    let done = sold_rows h (take i rows) in
    let any = known_at vs rows i s known c.loop-sale-test.true c.sale-item.is in
    let next : (before ++ done) ++ option_to_list (sold_as h (sale_by s)) ≡ before ++ sold_rows h (take (i + 1) rows) =
    append_assoc before done (option_to_list (sold_as h (sale_by s))) ∙ sym (ap (λ (l : List Sold). before ++ l) (sold_rows_more h rows i s c.loop-sale-test.true c.sale-item.is)) in
    subst (LicencesShow c.note.new.self c.args.names.now) next
    (c.in_ok-note.ensures vs h (before ++ done) named stand places any (c.loop-sale.invariant vs h before named stand places known show))

pub returns : goal.returns
returns c = λ vs h before named are stand places known show.
    let rows = c.args.sales.now in
    subst (λ (l : List Sale). LicencesShow c.loop-sale.self c.args.names.now (before ++ filter_map (sold_as h) l)) are
    (subst (λ (l : List Row). LicencesShow c.loop-sale.self c.args.names.now (before ++ sold_rows h l)) (take_all c.loop-sale.sale-index rows c.loop-sale-test.false)
    (c.loop-sale.invariant vs h before named stand places (subst (AllByRecursion (λ (x : Sale). IsTrue (has_book vs x.vendor))) (sym are) known) show))
