-- A wallet over a journal.
use Rattle.std.specs.Prelude.{◌≡◌}
use Rattle.mc_outside.specs.DiskView.{DiskView}
use Rattle.scrip_journal.specs.States.{IsJournal}
use Rattle.ledger_model.specs.Histories.{History}
use Rattle.wallet_book.specs.Book.{WalletRepresents}
use Rattle.wallet_core.specs.WalletView.{WalletView}

-- The journal has the history, what is kept represents it, and the journal has the wallet's limit.
pub record WalletStands {D : Type 0} (view : D → DiskView) (x : WalletView D) (h : History) : Type 0 where
  pub journal : IsJournal view x.journal h
  pub book : WalletRepresents x.book h
  pub limit : x.journal.limit ≡ x.book.limits.journal
