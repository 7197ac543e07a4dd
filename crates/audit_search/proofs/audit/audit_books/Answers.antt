use Rattle.audit_search.proofs.Audited.{audited}
use Rattle.audit_search.proofs.Kept.{names_book}
use Rattle.audit_search.proofs.audit.audit_books.Goals as goal

pub returns-clause-audited : goal.returns-clause-audited
returns-clause-audited c limits hs le all = audited limits le c.args.books.now hs all c.find.result c.find.ensures

pub returns-clause-named : goal.returns-clause-named
returns-clause-named c = names_book c.args.books.now c.find.result c.find.ensures
