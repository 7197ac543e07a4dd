use Rattle.std.proofs.Common.{map, sym, ap, ◌∙◌, subst}
use Rattle.audit_model.specs.Sales.{sale_by}
use Rattle.relayed_books.specs.Tree.{is_genuine}
use Rattle.tree_search.specs.Marks.{MarksShow}
use Rattle.tree_search.specs.Desks.{StandsAt}
use Rattle.tree_search.specs.Verdicts.{verdicts}
use Rattle.tree_search.proofs.DeskLaws.{none_more, vendor_sold}
use Rattle.tree_search.proofs.check.told_of.Goals as goal

pub returns-in-Some-clause-told : goal.returns-in-Some-clause-told
returns-in-Some-clause-told c = λ limits bs vs h earlier is stands places known lic show.
    let at = subst (StandsAt vs h) c.in-Some.is stands in
    c.judge_all.ensures.told bs vs h earlier (is.sums.name' ∙ sym c.name.ensures) (ap (map sale_by) c.sales.ensures ∙ is.sums.market'.sales') at.1 places known lic show

pub returns-in-Some-clause-shows : goal.returns-in-Some-clause-shows
returns-in-Some-clause-shows c = λ limits vs h earlier is stands places known show.
    let at = subst (StandsAt vs h) c.in-Some.is stands in
    c.judge_all.ensures.shows vs h earlier (is.sums.name' ∙ sym c.name.ensures) (ap (map sale_by) c.sales.ensures ∙ is.sums.market'.sales') at.1 places known show

pub returns-in-None-clause-told : goal.returns-in-None-clause-told
returns-in-None-clause-told c = λ limits bs vs h earlier is stands places known lic show.
    let at = subst (StandsAt vs h) c.in-None.is stands in
    c.new.ensures.items ∙ ap (verdicts (is_genuine bs vs) earlier h) (sym (vendor_sold limits c.args.book.now h is at))

pub returns-in-None-clause-shows : goal.returns-in-None-clause-shows
returns-in-None-clause-shows c = λ limits vs h earlier is stands places known show.
    let at = subst (StandsAt vs h) c.in-None.is stands in
    subst (MarksShow c.args.marks.now c.args.names.now) (sym (none_more h earlier (vendor_sold limits c.args.book.now h is at))) show
