use Rattle.std.proofs.Common.{◌≡◌, ◌≤◌, ℕ, Err, true, false, length, take, refl, sym, subst}
use Rattle.std.proofs.lemmas.List.{take_all}
use Rattle.ledger_model.specs.Houses.{site_name, is_broker}
use Rattle.audit_search.specs.declared.fault.BooksFault.{BooksFault}
use Rattle.audit_search.specs.Audit.{has_book}
use Rattle.audit_search.proofs.AuditLaws.{each_has}
use Rattle.relayed_books.specs.Tree.{sold_over}
use Rattle.tree_search.specs.Desks.{KnowSales}
use Rattle.tree_search.specs.Totals.{vendors_among, IsFound, NamesAt}
use Rattle.tree_search.proofs.DeskLaws.{book_at, holds_at, learned_long, drop_none}
use Rattle.tree_search.proofs.TotalLaws.{first_going, going_on, ends, all_gone, named_at}
use Rattle.tree_search.proofs.totals.totals_of.Goals as goal

pub loop-n-init : goal.loop-n-init
loop-n-init c = λ limits hs pre. first_going hs c.args.names.now c.new-marks.result _ (c.new-marks.ensures c.args.names.now) c.new.ensures.items c.new-2.ensures.items refl

pub loop-n-preserved : goal.loop-n-preserved
loop-n-preserved c = λ limits hs pre.
    let n = c.loop-n.n in
    let vs = vendors_among hs in
    let s = c.index-books-n.result in
    let r = book_at limits vs c.args.books.now hs c.args.desks.now n s c.index-desks-n.result pre.learned pre.stand c.loop-n-test.true c.index-books-n.is c.index-desks-n.is in
    let going = c.loop-n.invariant limits hs pre in
    let known = holds_at (KnowSales vs) hs n r.history _ pre.known r.next in
    let any = holds_at (λ h. is_broker h ≡ false → has_book vs (site_name h) ≡ true) hs n r.history _ (each_has hs) r.next in
    going_on limits hs n r.history r.next r.more c.args.names.now s c.loop-n.marks c.check_book.new.marks c.loop-n.totals c.add.new.self c.in-Ok.checked r.learned going
    (c.in-Ok.ensures.checked limits hs vs r.history (sold_over (take n hs)) r.learned pre.stand r.stands pre.places known any pre.show going.marks)
    (c.in-Ok.ensures.shows limits vs r.history (sold_over (take n hs)) r.learned r.stands pre.places known going.marks)
    c.in-Ok-add.ensures.brokers c.in-Ok-add.ensures.vendors c.in-Ok-add.ensures.relayed

pub returns-in-Err-clause-found : goal.returns-in-Err-clause-found
returns-in-Err-clause-found c = λ limits hs pre.
    let n = c.loop-n.n in
    let vs = vendors_among hs in
    let s = c.index-books-n.result in
    let r = book_at limits vs c.args.books.now hs c.args.desks.now n s c.index-desks-n.result pre.learned pre.stand c.loop-n-test.true c.index-books-n.is c.index-desks-n.is in
    let going = c.loop-n.invariant limits hs pre in
    let known = holds_at (KnowSales vs) hs n r.history _ pre.known r.next in
    let any = holds_at (λ h. is_broker h ≡ false → has_book vs (site_name h) ≡ true) hs n r.history _ (each_has hs) r.next in
    subst (λ (f : BooksFault). IsFound hs (Err f)) (sym c.of_book.ensures)
    (ends limits hs n r.history r.next r.more c.args.names.now s c.loop-n.marks c.loop-n.totals c.in-Err.fault going
    (c.in-Err.ensures.checked limits hs vs r.history (sold_over (take n hs)) r.learned pre.stand r.stands pre.places known any pre.show going.marks))

pub returns-in-Err-clause-named : goal.returns-in-Err-clause-named
returns-in-Err-clause-named c =
    subst (λ (f : BooksFault). NamesAt c.args.books.now (Err f)) (sym c.of_book.ensures) (named_at c.args.books.now c.loop-n.n c.index-books-n.result c.in-Err.fault c.loop-n-test.true c.index-books-n.is)

pub returns-clause-found : goal.returns-clause-found
returns-clause-found c = λ limits hs pre.
    let n = c.loop-n.n in
    let le : length hs ≤ n = subst (λ (k : ℕ). k ≤ n) (sym (learned_long limits c.args.books.now hs pre.learned)) c.loop-n-test.false in
    all_gone hs c.args.names.now n c.loop-n.marks c.loop-n.totals (take_all n hs le) (drop_none n hs le) (c.loop-n.invariant limits hs pre)
