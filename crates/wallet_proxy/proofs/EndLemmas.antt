-- How serving links by a lawful wallet's book ends, where no call failed.
use Rattle.std.proofs.Common.{◌≡◌, ◌≤◌, ◌⊎◌, inl, inr, refl, ℕ, List, ap, arith}
use Rattle.mc_outside.specs.DiskView.{DiskView}
use Rattle.mc_outside.specs.LinkView.{LinkView}
use Rattle.ledger_model.specs.Histories.{History}
use Rattle.scrip_journal.specs.Layout.{Encodes}
use Rattle.command_status.specs.declared.status.Status.{Status}
use Rattle.command_status.specs.declared.status.Status.TheVariants as ends
use Rattle.command_status.specs.Statuses.{number_of}
use Rattle.command_status.proofs.OpenLaws.{Calm, begins_with_header, not_spoiled, not_unchained}
use Rattle.scrip_journal.specs.Causes.{Only}
use Rattle.wallet_model.specs.Follows.{WalletFollows, IsWalletBook}
use Rattle.wallet_core.specs.OnDisk.{HasWallet, NotOpened}
use Rattle.wallet_core.proofs.DiskLemmas.{not_of_other, no_entry_breaks}
use Rattle.wallet_proxy.specs.Proxy.{Bounds}
use Rattle.wallet_proxy.specs.Proxying.{ProxiesBook, ProxiesLinksOf, ProxyCauses}

-- it is done, or memory was refused
abbrev pub Well : Status → Type 0
Well status = (number_of status ≡ 0) ⊎ (number_of status ≡ 5)

-- a lawful book is opened, unless memory was refused
unopened_well : {O : Type 0} (link : O → LinkView) (disk : O → DiskView) (h : History) (bytes : List ℕ) (links : ℕ) (a b : O) (up now_up : LinkView) (status : Status) → Encodes h bytes → IsWalletBook h → Calm link disk a b
    → ProxyCauses link disk links a up status now_up b → NotOpened link disk bytes a status b → Well status
unopened_well link disk h bytes links a b up now_up ends.NoMemory st lawful calm causes not = inr refl
unopened_well link disk h bytes links a b up now_up ends.DiskFault st lawful calm causes not = absurd (calm.disk' causes)
unopened_well link disk h bytes links a b up now_up ends.NotJournal st lawful calm causes not = absurd (not.0 (begins_with_header h bytes st))
unopened_well link disk h bytes links a b up now_up (ends.BadEntry place) st lawful calm causes not = absurd (not_spoiled WalletFollows (Only 2) h bytes place st not.0)
unopened_well link disk h bytes links a b up now_up (ends.BadChain place) st lawful calm causes not = absurd (not_unchained WalletFollows (Only 2) h bytes place not.0.0 not.0.1 st not.0.2)
unopened_well link disk h bytes links a b up now_up (ends.UnlawfulEntry place) st lawful calm causes not = absurd (no_entry_breaks h bytes place st lawful not.0)
unopened_well link disk h bytes links a b up now_up (ends.Refused f) st lawful calm causes not = absurd (not_of_other h bytes st lawful not.1)
unopened_well link disk h bytes links a b up now_up ends.LinkFault st lawful calm causes not = absurd not
unopened_well link disk h bytes links a b up now_up ends.Done st lawful calm causes not = absurd not
unopened_well link disk h bytes links a b up now_up (ends.Did line) st lawful calm causes not = absurd not
unopened_well link disk h bytes links a b up now_up (ends.Served n) st lawful calm causes not = absurd not
unopened_well link disk h bytes links a b up now_up (ends.Founded name) st lawful calm causes not = absurd not
unopened_well link disk h bytes links a b up now_up (ends.Proxied n paid) st lawful calm causes not = absurd not
unopened_well link disk h bytes links a b up now_up ends.BadWords st lawful calm causes not = absurd not
unopened_well link disk h bytes links a b up now_up (ends.Stranger name id) st lawful calm causes not = absurd not

opened_well : {O : Type 0} (link : O → LinkView) (disk : O → DiskView) (bounds : Bounds) (bytes : List ℕ) (links : ℕ) (a b : O) (up now_up : LinkView) (status : Status) → Calm link disk a b
    → ProxyCauses link disk links a up status now_up b → ProxiesLinksOf link disk bounds links bytes a up status now_up b → Well status
opened_well link disk bounds bytes links a b up now_up (ends.Proxied n paid) calm causes served = inl refl
opened_well link disk bounds bytes links a b up now_up ends.NoMemory calm causes served = inr refl
opened_well link disk bounds bytes links a b up now_up ends.LinkFault calm causes served = absurd (calm.link' causes.1)
opened_well link disk bounds bytes links a b up now_up ends.DiskFault calm causes served = absurd (calm.disk' causes)
opened_well link disk bounds bytes links a b up now_up ends.NotJournal calm causes served = absurd served
opened_well link disk bounds bytes links a b up now_up (ends.BadEntry place) calm causes served = absurd served
opened_well link disk bounds bytes links a b up now_up (ends.BadChain place) calm causes served = absurd served
opened_well link disk bounds bytes links a b up now_up (ends.UnlawfulEntry place) calm causes served = absurd served
opened_well link disk bounds bytes links a b up now_up (ends.Refused f) calm causes served = absurd served
opened_well link disk bounds bytes links a b up now_up ends.Done calm causes served = absurd served
opened_well link disk bounds bytes links a b up now_up (ends.Did line) calm causes served = absurd served
opened_well link disk bounds bytes links a b up now_up (ends.Served n) calm causes served = absurd served
opened_well link disk bounds bytes links a b up now_up (ends.Founded name) calm causes served = absurd served
opened_well link disk bounds bytes links a b up now_up ends.BadWords calm causes served = absurd served
opened_well link disk bounds bytes links a b up now_up (ends.Stranger name id) calm causes served = absurd served

pub proxied_well : {O : Type 0} (link : O → LinkView) (disk : O → DiskView) (bounds : Bounds) (links : ℕ) (a b : O) (up now_up : LinkView) (status : Status) → (has : HasWallet (disk a)) → Calm link disk a b
    → ProxyCauses link disk links a up status now_up b → ProxiesBook link disk bounds links has.bytes a up status now_up b → Well status
proxied_well link disk bounds links a b up now_up status has calm causes (inl not) = unopened_well link disk has.history has.bytes links a b up now_up status has.stands has.lawful calm causes not.0
proxied_well link disk bounds links a b up now_up status has calm causes (inr served) = opened_well link disk bounds has.bytes links a b up now_up status calm causes served

-- the count of the links' faults did not fall
stayed : (m n : ℕ) → n ≡ m → m ≤ n
stayed m n same = omega (arith, same)

same_count : (v w : LinkView) → w ≡ v → v.faults ≤ w.faults
same_count v w same = stayed v.faults w.faults (ap (λ (u : LinkView). u.faults) same)

pub proxied_grew : {O : Type 0} (link : O → LinkView) (disk : O → DiskView) (links : ℕ) (a b : O) (up now_up : LinkView) (status : Status) → Calm link disk a b → ProxyCauses link disk links a up status now_up b → (link a).faults ≤ (link b).faults
proxied_grew link disk links a b up now_up (ends.Proxied n paid) calm causes = causes.1
proxied_grew link disk links a b up now_up ends.NoMemory calm causes = same_count (link a) (link b) causes.link'
proxied_grew link disk links a b up now_up ends.LinkFault calm causes = absurd (calm.link' causes.1)
proxied_grew link disk links a b up now_up ends.DiskFault calm causes = absurd (calm.disk' causes)
proxied_grew link disk links a b up now_up ends.NotJournal calm causes = same_count (link a) (link b) causes.link'
proxied_grew link disk links a b up now_up (ends.BadEntry place) calm causes = same_count (link a) (link b) causes.link'
proxied_grew link disk links a b up now_up (ends.BadChain place) calm causes = same_count (link a) (link b) causes.link'
proxied_grew link disk links a b up now_up (ends.UnlawfulEntry place) calm causes = same_count (link a) (link b) causes.link'
proxied_grew link disk links a b up now_up (ends.Refused f) calm causes = same_count (link a) (link b) causes.1.link'
proxied_grew link disk links a b up now_up ends.Done calm causes = absurd causes
proxied_grew link disk links a b up now_up (ends.Did line) calm causes = absurd causes
proxied_grew link disk links a b up now_up (ends.Served n) calm causes = absurd causes
proxied_grew link disk links a b up now_up (ends.Founded name) calm causes = absurd causes
proxied_grew link disk links a b up now_up ends.BadWords calm causes = absurd causes
proxied_grew link disk links a b up now_up (ends.Stranger name id) calm causes = absurd causes
