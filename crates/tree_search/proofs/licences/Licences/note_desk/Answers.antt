use Rattle.std.proofs.Common.{map, sym, ap, ◌∙◌, subst}
use Rattle.audit_model.specs.Sales.{sale_by}
use Rattle.tree_search.specs.Marks.{LicencesShow}
use Rattle.tree_search.specs.Desks.{StandsAt}
use Rattle.tree_search.proofs.DeskLaws.{none_more, vendor_sold}
use Rattle.tree_search.proofs.licences.Licences.note_desk.Goals as goal

pub returns-in-Some : goal.returns-in-Some
returns-in-Some c = λ limits vs h before is stands places known show.
    let at = subst (StandsAt vs h) c.in-Some.is stands in
    c.note_all.ensures vs h before (is.sums.name' ∙ sym c.name.ensures) (ap (map sale_by) c.sales.ensures ∙ is.sums.market'.sales') at.1 places known show

pub returns-in-None : goal.returns-in-None
returns-in-None c = λ limits vs h before is stands places known show.
    let at = subst (StandsAt vs h) c.in-None.is stands in
    subst (LicencesShow c.args.self.now c.args.names.now) (sym (none_more h before (vendor_sold limits c.args.book.now h is at))) show
