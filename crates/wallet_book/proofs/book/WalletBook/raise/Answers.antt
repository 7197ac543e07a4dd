use Rattle.std.proofs.Common.{sym, subst, arith}
use Rattle.wallet_book.specs.Book.{BookView, WalletRepresents}
use Rattle.wallet_book.proofs.BookLaws.{raised}
use Rattle.wallet_book.proofs.book.WalletBook.raise.Goals as goal

pub returns-clause-same : goal.returns-clause-same
returns-clause-same c = λ h is. raised _ c.later-time.result h (subst (λ (b : BookView). WalletRepresents b h) (sym c.self.view_is) is) (omega (arith, c.later-time.ensures))
