use Rattle.command_table.proofs.BookLemmas.{books_found, no_books_found}
use Rattle.command_table.proofs.books.books_in.Goals as goal

pub returns-then-not-are_books-clause-none : goal.returns-then-not-are_books-clause-none
returns-then-not-are_books-clause-none c = λ none. no_books_found c.args.found _ c.in_ok-books.ensures c.if-not-are_books.ensures

pub invariant_of-result : goal.invariant_of-result
invariant_of-result c = books_found c.args.found _ c.in_ok-books.ensures c.if-not-are_books.ensures

pub returns-clause-some : goal.returns-clause-some
returns-clause-some c = books_found c.args.found _ c.in_ok-books.ensures c.if-not-are_books.ensures
