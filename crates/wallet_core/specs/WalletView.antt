-- What contracts see of a wallet over a journal.
use Rattle.scrip_journal.specs.States.{AtRest}
use Rattle.wallet_book.specs.Book.{BookView}

pub record WalletView (D : Type 0) : Type 0 where
  pub journal : AtRest D
  pub book : BookView
