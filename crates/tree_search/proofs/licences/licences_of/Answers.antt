use Rattle.std.proofs.Common.{◌≤◌, ℕ, List, take, sym, subst}
use Rattle.std.proofs.lemmas.List.{take_all}
use Rattle.ledger_model.specs.Histories.{History}
use Rattle.relayed_books.specs.Tree.{sold_over}
use Rattle.tree_search.specs.Marks.{LicencesShow}
use Rattle.tree_search.specs.Desks.{KnowSales}
use Rattle.tree_search.proofs.DeskLaws.{book_at, holds_at, sold_more, learned_long}
use Rattle.tree_search.proofs.licences.licences_of.Goals as goal

pub loop-n-init : goal.loop-n-init
loop-n-init c = λ limits hs vs learned stand places known. c.new-licences.ensures c.args.names.now

pub loop-n-preserved : goal.loop-n-preserved
loop-n-preserved c = λ limits hs vs learned stand places known.
    let n = c.loop-n.n in
    let r = book_at limits vs c.args.books.now hs c.args.desks.now n c.index-books-n.result c.index-desks-n.result learned stand c.loop-n-test.true c.index-books-n.is c.index-desks-n.is in
    subst (LicencesShow c.note_desk.new.self c.args.names.now) (sym (sold_more hs n r.history r.more))
    (c.in_ok-note_desk.ensures limits vs r.history (sold_over (take n hs)) r.learned r.stands places (holds_at (KnowSales vs) hs n r.history _ known r.next) (c.loop-n.invariant limits hs vs learned stand places known))

pub returns : goal.returns
returns c = λ limits hs vs learned stand places known.
    let n = c.loop-n.n in
    let books = c.args.books.now in
    subst (λ (l : List History). LicencesShow c.loop-n.licences c.args.names.now (sold_over l))
    (take_all n hs (subst (λ (k : ℕ). k ≤ n) (sym (learned_long limits books hs learned)) c.loop-n-test.false)) (c.loop-n.invariant limits hs vs learned stand places known)
