use Rattle.std.proofs.Common.{List, take, sym, subst}
use Rattle.std.proofs.lemmas.List.{take_all}
use Rattle.audit_sums.specs.declared.audit_sums.BookSums.{BookSums}
use Rattle.audit_search.proofs.Loops.{one_more}
use Rattle.tree_search.specs.Desks.{IsDeskOf, AreDesksOf}
use Rattle.tree_search.proofs.DeskLaws.{zip_more}
use Rattle.tree_search.proofs.desks.desks_of.Goals as goal

pub loop-book-preserved : goal.loop-book-preserved
loop-book-preserved c =
    let books = c.args.books.now in
    let i = c.loop-book.book-index in
    let s = c.book-item.result in
    let desks = c.loop-book.desks.items in
    subst (λ (l : List BookSums). AreDesksOf books l c.push.new.self.items) (sym (one_more books i s c.loop-book-test.true c.book-item.is))
    (subst (AreDesksOf books _) (sym c.in_ok-push.ensures.items) (zip_more (IsDeskOf books) (take i books) desks s c.in_ok-desk.desk c.loop-book.invariant c.in_ok-desk.ensures))

pub returns : goal.returns
returns c = subst (λ (l : List BookSums). AreDesksOf c.args.books.now l c.loop-book.desks.items) (take_all c.loop-book.book-index c.args.books.now c.loop-book-test.false) c.loop-book.invariant
