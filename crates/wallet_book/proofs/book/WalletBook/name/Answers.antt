use Rattle.std.proofs.Common.{sym, ap, ◌∙◌}
use Rattle.wallet_book.specs.Book.{BookView}
use Rattle.wallet_book.proofs.book.WalletBook.name.Goals as goal

pub returns : goal.returns
returns c = λ h is. ap (λ (v : BookView). v.name) c.self.view_is ∙ sym is.name
