use Rattle.wallet_model.proofs.BookLaws.{book_grows, book_prefix}
use Rattle.wallet_model.proofs.WrittenLaws.{book_is_wallet}
use Rattle.wallet_model.proofs.laws.wallet_books_grow.Goals as goal

pub returns-clause-wallet : goal.returns-clause-wallet
returns-clause-wallet c = book_is_wallet

pub returns-clause-grows : goal.returns-clause-grows
returns-clause-grows c = book_grows

pub returns-clause-prefix : goal.returns-clause-prefix
returns-clause-prefix c = book_prefix
