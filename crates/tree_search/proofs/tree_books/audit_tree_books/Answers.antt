use Rattle.std.proofs.Common.{◌≡◌, true, false, true≢false, sym, ap, ◌∙◌}
use Rattle.std.specs.Prelude.{is_some}
use Rattle.audit_search.specs.Markets.{own_names}
use Rattle.tree_search.proofs.AuditLaws.{places_by, shared_names, no_desk, vendors_own, missing, known, told, fault, names_book}
use Rattle.tree_search.proofs.tree_books.audit_tree_books.Goals as goal

pub returns-then-not-own-clause-audited : goal.returns-then-not-own-clause-audited
returns-then-not-own-clause-audited c = λ limits hs le all. shared_names limits c.args.books.now hs all (sym c.in-Ok.ensures ∙ c.if-not-own.true)

pub returns-then-not-has_desk-clause-audited : goal.returns-then-not-has_desk-clause-audited
returns-then-not-has_desk-clause-audited c = λ limits hs le all. no_desk limits c.args.books.now hs all (sym c.has_desk.ensures ∙ c.if-not-has_desk.true)

pub returns-in-Ok-None-clause-audited : goal.returns-in-Ok-None-clause-audited
returns-in-Ok-None-clause-audited c = λ limits hs le all bs vs tree some.
    let own : own_names c.args.books.now ≡ false = sym c.in-Ok-None.ensures.own ∙ ap is_some c.in-Ok-None.field-0-is in
    true≢false (sym (vendors_own limits c.args.books.now hs all (sym c.in-Ok.ensures ∙ c.if-not-own.false)) ∙ own)

pub find-requires : goal.find-requires
find-requires c = sym c.in-Ok-Some.ensures.own ∙ ap is_some c.in-Ok-Some.field-0-is

pub returns-in-Some-clause-audited : goal.returns-in-Some-clause-audited
returns-in-Some-clause-audited c = λ limits hs le all.
    let books = c.args.books.now in
    let own = sym c.in-Ok.ensures ∙ c.if-not-own.false in
    let desk = sym c.has_desk.ensures ∙ c.if-not-has_desk.false in
    missing limits books hs all own desk c.in-Ok-Some.names c.in-Some.name (places_by limits books hs c.in-Ok-Some.field-0 c.in-Ok-Some.names all c.in-Ok-Some.field-0-is c.in-Ok-Some.ensures.names c.in-Ok-Some.ensures.places) c.in-Some.ensures

pub returns-in-Err-find-clause-audited : goal.returns-in-Err-find-clause-audited
returns-in-Err-find-clause-audited c = λ limits hs le all.
    let books = c.args.books.now in
    let own = sym c.in-Ok.ensures ∙ c.if-not-own.false in
    let desk = sym c.has_desk.ensures ∙ c.if-not-has_desk.false in
    let places = places_by limits books hs c.in-Ok-Some.field-0 c.in-Ok-Some.names all c.in-Ok-Some.field-0-is c.in-Ok-Some.ensures.names c.in-Ok-Some.ensures.places in
    fault limits books hs all own desk c.in-Ok-Some.names places c.in-None.ensures c.in-Err-find.fault
    (c.in-Err-find.ensures.found limits hs all places (known limits books hs all own desk c.in-Ok-Some.names places c.in-None.ensures)) c.in-Err-find.ensures.named

pub returns-in-Err-find-clause-named : goal.returns-in-Err-find-clause-named
returns-in-Err-find-clause-named c = names_book c.args.books.now c.in-Err-find.fault c.in-Err-find.ensures.named

pub returns-in-Ok-tree_of-clause-audited : goal.returns-in-Ok-tree_of-clause-audited
returns-in-Ok-tree_of-clause-audited c = λ limits hs le all.
    let books = c.args.books.now in
    let own = sym c.in-Ok.ensures ∙ c.if-not-own.false in
    let desk = sym c.has_desk.ensures ∙ c.if-not-has_desk.false in
    let places = places_by limits books hs c.in-Ok-Some.field-0 c.in-Ok-Some.names all c.in-Ok-Some.field-0-is c.in-Ok-Some.ensures.names c.in-Ok-Some.ensures.places in
    told limits books hs all own desk c.in-Ok-Some.names places c.in-None.ensures c.in-Ok-find.totals c.in-Ok-tree_of.tree le
    (c.in-Ok-find.ensures.found limits hs all places (known limits books hs all own desk c.in-Ok-Some.names places c.in-None.ensures)) c.in-Ok-tree_of.ensures
