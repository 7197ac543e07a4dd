-- What stays of a wallet while links work.
use Rattle.std.specs.Prelude.{◌≡◌, refl}
use Rattle.std.proofs.Common.{◌∙◌, subst, sym, ap}
use Rattle.mc_outside.specs.DiskView.{DiskView, LinkKeeps}
use Rattle.ledger_model.specs.Histories.{History}
use Rattle.scrip_journal.specs.Rests.{RestsAs, rests_none, rests_then, journal_keeps}
use Rattle.wallet_book.specs.Book.{BookView, WalletRepresents}
use Rattle.wallet_core.specs.WalletView.{WalletView}
use Rattle.wallet_core.specs.Wallet.{WalletStands}

-- only the disk of the journal may have changed
pub record WalletRests {D : Type 0} (old new : WalletView D) : Type 0 where
  pub journal : RestsAs old.journal new.journal
  pub book : new.book ≡ old.book

pub wallet_rests_none : {D : Type 0} (a : WalletView D) → WalletRests a a
wallet_rests_none a = record { journal = rests_none a.journal; book = refl }

pub wallet_rests_then : {D : Type 0} (a b c : WalletView D) → WalletRests a b → WalletRests b c → WalletRests a c
wallet_rests_then a b c m n = record { journal = rests_then a.journal b.journal c.journal m.journal n.journal; book = n.book ∙ m.book }

-- what links do leaves the wallet
pub wallet_keeps : {D : Type 0} (view : D → DiskView) (x y : WalletView D) (h : History) → WalletStands view x h
    → LinkKeeps (view x.journal.disk) (view y.journal.disk) → WalletRests x y → WalletStands view y h
wallet_keeps view x y h st keeps rests = record {
  journal = journal_keeps view x.journal y.journal h st.journal keeps rests.journal;
  book = subst (λ (b : BookView). WalletRepresents b h) (sym rests.book) st.book;
  limit = rests.journal.limit ∙ st.limit ∙ ap (λ (b : BookView). b.limits.journal) (sym rests.book);
}
