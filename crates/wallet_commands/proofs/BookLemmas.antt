-- The book of a wallet, as it is opened and while links work.
use Rattle.std.proofs.Common.{◌≡◌, ◌∙◌, inl, ◌⊎◌, ℕ, List, Option, sym, ap, subst, Some}
use Rattle.std.specs.Prelude.{IsSome}
use Rattle.mc_outside.specs.DiskView.{DiskView, LinkKeeps, Ran}
use Rattle.mc_outside.specs.LinkView.{LinkView}
use Rattle.mc_outside.proofs.Runs.{ran_then, ran_weaker}
use Rattle.ledger_model.specs.Histories.{History}
use Rattle.scrip_journal.specs.Layout.{Encodes}
use Rattle.scrip_journal.specs.States.{AtRest, IsChainOf, IsJournal}
use Rattle.scrip_journal.specs.Rests.{RestsAs}
use Rattle.scrip_journal.proofs.Unique.{one_history}
use Rattle.wallet_book.specs.Book.{BookView, WalletRepresents}
use Rattle.wallet_core.specs.WalletView.{WalletView}
use Rattle.wallet_core.specs.Wallet.{WalletStands}
use Rattle.wallet_core.specs.Rests.{WalletRests}
use Rattle.wallet_commands.specs.Books.{OldPair}
use Rattle.wallet_core.specs.OnDisk.{Untouched}
use Rattle.millicent_http.proofs.AsideLemmas.{TellsAside, SentNoMore, quiet_link}

-- what a journal has it had before links worked
journal_had : {O : Type 0} (disk : O → DiskView) (j k : AtRest O) (h : History) → LinkKeeps (disk j.disk) (disk k.disk) → RestsAs j k → IsJournal disk k h → IsJournal disk j h
journal_had disk j k h keeps rests is = record {
  bytes = is.bytes;
  told = sym keeps.contents ∙ is.told;
  stands = is.stands;
  size_is = sym rests.size ∙ is.size_is;
  entries_is = sym rests.entries ∙ is.entries_is;
  switched_is = sym rests.switched ∙ is.switched_is;
  chain_is = subst (λ (c : Option (List ℕ)). IsChainOf c h) rests.chain is.chain_is;
  synced = λ c l. is.synced c ((keeps.leaves c).1 l);
}

-- and what a wallet stands for it stood for before
pub stood : {O : Type 0} (disk : O → DiskView) (x y : WalletView O) (h : History) → LinkKeeps (disk x.journal.disk) (disk y.journal.disk) → WalletRests x y → WalletStands disk y h → WalletStands disk x h
stood disk x y h keeps rests st = record {
  journal = journal_had disk x.journal y.journal h keeps rests.journal st.journal;
  book = subst (λ (b : BookView). WalletRepresents b h) rests.book st.book;
  limit = sym rests.journal.limit ∙ st.limit ∙ ap (λ (b : BookView). b.limits.journal) rests.book;
}

-- a wallet stands for one history
pub one_book : {O : Type 0} (disk : O → DiskView) (x : WalletView O) (h g : History) → WalletStands disk x h → WalletStands disk x g → h ≡ g
one_book disk x h g st other =
    let same : Some st.journal.bytes ≡ Some other.journal.bytes = sym st.journal.told ∙ other.journal.told in
    let bytes : st.journal.bytes ≡ other.journal.bytes = cc in
    one_history h g st.journal.bytes st.journal.stands (subst (Encodes g) (sym bytes) other.journal.stands)

-- ---- crash pairs up to the wallet that did nothing yet

pub tells_on : {O : Type 0} (link : O → LinkView) (a b : O) → link b ≡ link a → IsSome (link a).sessions → IsSome (link b).sessions
tells_on link a b same told = subst (λ (v : LinkView). IsSome v.sessions) (sym same) told

-- the book was read, and then links worked that sent nothing
pub old_pairs : {O : Type 0} (link : O → LinkView) (disk : O → DiskView) (h : History) (a b c : O) → TellsAside link (λ o. (disk o).aside) → Untouched link disk a b → LinkKeeps (disk b) (disk c) → SentNoMore (link b) (link c)
    → Ran (disk a) (disk c) (OldPair (IsSome (link a).sessions) (disk a) h)
old_pairs link disk h a b c all same keeps none =
    ran_then (disk a) (disk b) (disk c) (OldPair (IsSome (link a).sessions) (disk a) h)
    (ran_weaker (disk a) (disk b) _ _ same.read.ran (λ i s p. (inl p.0, λ t. p.1)))
    (quiet_link link disk (IsSome (link a).sessions) (λ i. (disk a).leaves i ⊎ Encodes h i) (disk a).aside b c all keeps (tells_on link a b same.link') none (λ t. same.read.aside) (λ i l. inl (same.read.leaves i l)))
