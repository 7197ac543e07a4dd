use Rattle.std.proofs.Common.{sym, ap, ◌∙◌, map}
use Rattle.wallet_book.specs.Holdings.{holding_of}
use Rattle.wallet_book.specs.Book.{BookView}
use Rattle.wallet_book.proofs.book.WalletBook.holdings.Goals as goal

pub returns-clause-exact : goal.returns-clause-exact
returns-clause-exact c = λ h is. ap (map holding_of) (c.as_slice.ensures.list ∙ ap (λ (v : BookView). v.holdings) c.self.view_is) ∙ sym is.parts.pieces
