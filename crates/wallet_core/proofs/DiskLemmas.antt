-- A wallet's book on a disk, and why it is not opened.
use Rattle.std.proofs.Common.{ℕ, List, refl, Err, ◌≡◌, true, [], ◌∷◌, subst}
use Rattle.mc_outside.specs.DiskView.{DiskView}
use Rattle.mc_outside.specs.LinkView.{LinkView}
use Rattle.mc_requests.specs.declared.limits.TheConstants.Limits.{FULL}
use Rattle.ledger_model.specs.Histories.{History}
use Rattle.scrip_journal.specs.Rests.{journal_leaves}
use Rattle.scrip_journal.specs.declared.fault.HouseFault.{HouseFault}
use Rattle.scrip_journal.specs.Founds.{fault_disk}
use Rattle.command_status.specs.Faults.{fault_status}
use Rattle.wallet_core.specs.WalletView.{WalletView}
use Rattle.wallet_core.specs.Wallet.{WalletStands}
use Rattle.wallet_core.specs.Opening.{OpensWallet}
use Rattle.wallet_core.specs.OnDisk.{EncodesWallet, Untouched, NotOpened}
use Rattle.std.proofs.lemmas.Bool.{eqb-true}
use Rattle.mc_records.specs.Entry.{Entry, Site}
use Rattle.mc_records.specs.Following.{AllFollowBy}
use Rattle.scrip_journal.specs.Layout.{Encodes}
use Rattle.scrip_journal.specs.Causes.{Only, IsUnlawfulAt, IsOfOther, IsOfOtherKind}
use Rattle.scrip_journal.proofs.Beginnings.{begins_history}
use Rattle.command_status.proofs.OpenLaws.{not_unlawful}
use Rattle.wallet_model.specs.Follows.{wallet_allows, WalletFollows, IsWalletBook}
use Rattle.scrip_journal.specs.declared.fault.HouseFault.TheVariants as faults

-- a wallet that stands for a history has it on its disk
pub on_disk : {O : Type 0} (disk : O → DiskView) (x : WalletView O) (h : History) → WalletStands disk x h → EncodesWallet (disk x.journal.disk) h
on_disk disk x h st = record {
  bytes = st.journal.bytes;
  told = st.journal.told;
  stands = st.journal.stands;
  lawful = st.book.lawful;
  lasts = λ image l. journal_leaves disk x.journal h st.journal image l;
}

-- a book was not opened, by what is answered
pub not_opened : {O : Type 0} (link : O → LinkView) (disk : O → DiskView) (bytes : List ℕ) (a : O) (fault : HouseFault O) → OpensWallet {D = O} disk FULL bytes (Err fault) → Untouched link disk a (fault_disk fault)
    → NotOpened link disk bytes a (fault_status fault) (fault_disk fault)
not_opened link disk bytes a (faults.NotJournal d) opens same = (opens, same)
not_opened link disk bytes a (faults.BadRecord d place) opens same = (opens, same)
not_opened link disk bytes a (faults.BadChain d place stood computed) opens same = ((stood, computed, opens), same)
not_opened link disk bytes a (faults.Unlawful d place) opens same = (opens, same)
not_opened link disk bytes a (faults.WrongKind d) opens same = (refl, opens, same)
not_opened link disk bytes a (faults.NotEmpty d size) opens same = absurd opens
not_opened link disk bytes a (faults.Disk d) opens same = same
not_opened link disk bytes a (faults.NoMemory d) opens same = same

all_of : (h : History) → IsWalletBook h → AllFollowBy WalletFollows [] h
all_of [] lawful = absurd lawful
all_of (e ∷ es) lawful = lawful

first_is_wallet : (e : Entry) → wallet_allows [] e ≡ true → IsOfOtherKind (Only 2) e → ⊥
first_is_wallet (Site m kind name house) allowed other = other (eqb-true kind 2 allowed)
first_is_wallet e allowed other = other

pub not_of_other : (h : History) (bytes : List ℕ) → Encodes h bytes → IsWalletBook h → IsOfOther (Only 2) bytes → ⊥
not_of_other h bytes st lawful other =
    let more = begins_history h (other.first ∷ []) bytes st other.begins in
    let all : AllFollowBy WalletFollows [] (other.first ∷ more.0) = subst (λ (g : History). AllFollowBy WalletFollows [] g) more.1 (all_of h lawful) in
    first_is_wallet other.first all.0.allowed other.other

-- no entry of it breaks
pub no_entry_breaks : (h : History) (bytes : List ℕ) (place : ℕ) → Encodes h bytes → IsWalletBook h → IsUnlawfulAt WalletFollows (Only 2) bytes place → ⊥
no_entry_breaks h bytes place st lawful unlawful = not_unlawful WalletFollows (Only 2) h bytes place st (λ empty. subst IsWalletBook empty lawful) (all_of h lawful) unlawful
