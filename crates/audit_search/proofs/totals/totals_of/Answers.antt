use Rattle.std.proofs.Common.{sym, subst, Err}
use Rattle.audit_search.specs.declared.fault.BooksFault.{BooksFault}
use Rattle.audit_search.specs.Findings.{FindsTotals}
use Rattle.audit_search.proofs.TotalLaws.{search_on, rows_more, desk_more}
use Rattle.audit_search.proofs.Kept.{fault_found}
use Rattle.audit_search.proofs.totals.totals_of.Goals as goal

pub loop-n-preserved : goal.loop-n-preserved
loop-n-preserved c =
    let shops = c.args.shops.now.list.items in
    let books = c.args.books.now in
    let n = c.loop-n.n in
    let s = c.index-books-n.result in
    record {
      first = search_on shops books n s _ c.loop-n-test.true c.index-books-n.is c.in-Ok.ensures.0 c.loop-n.invariant.first;
      rows = rows_more shops books n s c.in-Ok.left c.loop-n.totals.vendors.items c.add.new.totals.vendors.items c.loop-n-test.true c.index-books-n.is c.in-Ok.ensures.1 c.loop-n.invariant.rows c.in-Ok-add.ensures.vendors;
      desk = desk_more shops books n s c.in-Ok.left c.loop-n.totals.desk c.add.new.totals.desk c.loop-n-test.true c.index-books-n.is c.in-Ok.ensures.1 c.loop-n.invariant.desk c.in-Ok-add.ensures.desk;
    }

pub returns-in-Err : goal.returns-in-Err
returns-in-Err c =
    subst (λ (f : BooksFault). FindsTotals c.args.shops.now.list.items c.args.books.now (Err f)) (sym c.of_book.ensures)
    (fault_found c.args.shops.now.list.items c.args.books.now c.loop-n.n c.index-books-n.result c.in-Err.fault c.loop-n-test.true c.index-books-n.is c.in-Err.ensures c.loop-n.invariant.first)
