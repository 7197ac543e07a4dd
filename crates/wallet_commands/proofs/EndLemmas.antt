-- How a wallet's command ends whose book encodes the lawful history of a wallet, where no call failed.
use Rattle.std.proofs.Common.{◌≡◌, ◌≤◌, ◌⊎◌, ◌∙◌, inl, inr, ℕ, Bool, true, false, List, [], ◌∷◌, ◌++◌, length, max, refl, sym, ap, arith, Option, Some, None, Result, Ok, Err}
use Rattle.std.specs.Prelude.{◌==◌, option_map, unwrap_or}
use Rattle.mc_outside.specs.DiskView.{DiskView}
use Rattle.mc_outside.specs.LinkView.{LinkView}
use Rattle.scrip_form.specs.Scrip.{Scrip}
use Rattle.mc_requests.specs.declared.limits.TheConstants.Limits.{FULL}
use Rattle.mc_requests.specs.declared.refusal.Refusal.{Refusal}
use Rattle.mc_requests.specs.declared.refusal.Refusal.TheVariants as refusals
use Rattle.mc_records.specs.Entry.{Entry}
use Rattle.ledger_model.specs.Histories.{History, time}
use Rattle.ledger_model.specs.Lines as lines
use Rattle.ledger_model.specs.Answer.{fitted}
use Rattle.scrip_journal.specs.Layout.{Encodes}
use Rattle.scrip_journal.specs.Causes.{Only}
use Rattle.millicent_http.specs.Received.{Received}
use Rattle.millicent_http.specs.Inputs.{LostInput}
use Rattle.command_status.specs.declared.status.Status.{Status}
use Rattle.command_status.specs.declared.status.Status.TheVariants as ends
use Rattle.command_status.specs.Statuses.{number_of}
pub use Rattle.command_status.proofs.OpenLaws.{Calm}
use Rattle.command_status.proofs.OpenLaws.{begins_with_header, not_spoiled, not_unchained}
use Rattle.wallet_model.specs.Requests.{Pending, oldest_kept}
use Rattle.wallet_model.specs.Holdings.{holdings}
use Rattle.wallet_model.specs.Follows.{WalletFollows, IsWalletBook}
use Rattle.wallet_model.specs.Asks.{Offered, Asking, pend_entry, due_entry}
use Rattle.wallet_model.specs.Settling.{settlement}
use Rattle.wallet_core.specs.Settled.{bought}
use Rattle.wallet_core.specs.Taking.{take_entry}
use Rattle.held_lines.specs.Resold.{resold_for}
use Rattle.wallet_commands.specs.declared.saying.Saying.{Saying}
use Rattle.wallet_commands.specs.declared.saying.Saying.TheVariants as sayings
use Rattle.wallet_commands.specs.Lines.{got_line, holding_lines}
use Rattle.wallet_core.specs.OnDisk.{HasWallet, EncodesWallet, NotOpened}
use Rattle.wallet_commands.specs.Causes.{WalletCauses, SwitchCauses}
use Rattle.wallet_commands.proofs.CauseLemmas.{switch_causes_so}
use Rattle.wallet_commands.specs.Founding.{InitCauses}
use Rattle.wallet_commands.specs.Taking.{TookBy, TakesBook}
use Rattle.wallet_commands.specs.Listing.{ListsBook, SaysHeld, ListsHeld}
use Rattle.wallet_commands.specs.Chaining.{ChainedBy, ChainsBook, switch_entry}
use Rattle.wallet_commands.specs.Payments.{Learned, Settles, Stays, Breaks}
use Rattle.wallet_commands.specs.Paying.{ended_by, renewed_by, ended_as, SettlesAs, EndsAs, UsesLinkAs, PaysAs, PaysBook, RenewsBook, RetriesBy, RetriesBook}
use Rattle.wallet_core.proofs.DiskLemmas.{not_of_other, no_entry_breaks}

-- ---- the count of the links' faults did not fall

stayed : (m n : ℕ) → n ≡ m → m ≤ n
stayed m n same = omega (arith, same)

pub grew_by : {O : Type 0} (link : O → LinkView) (disk : O → DiskView) (a b : O) (status : Status) → Calm link disk a b → WalletCauses link disk a status b → (link a).faults ≤ (link b).faults
grew_by link disk a b ends.DiskFault calm causes = absurd (calm.disk' causes.disk')
grew_by link disk a b ends.LinkFault calm causes = absurd (calm.link' causes.link')
grew_by link disk a b ends.Done calm causes = stayed (link a).faults (link b).faults causes.link'
grew_by link disk a b (ends.Did line) calm causes = stayed (link a).faults (link b).faults causes.link'
grew_by link disk a b ends.NoMemory calm causes = stayed (link a).faults (link b).faults causes.link'
grew_by link disk a b ends.NotJournal calm causes = stayed (link a).faults (link b).faults causes.0.link'
grew_by link disk a b (ends.BadEntry place) calm causes = stayed (link a).faults (link b).faults causes.0.link'
grew_by link disk a b (ends.BadChain place) calm causes = stayed (link a).faults (link b).faults causes.0.link'
grew_by link disk a b (ends.UnlawfulEntry place) calm causes = stayed (link a).faults (link b).faults causes.0.link'
grew_by link disk a b (ends.Refused f) calm causes = stayed (link a).faults (link b).faults causes.0.link'
grew_by link disk a b (ends.Served n) calm causes = absurd causes
grew_by link disk a b (ends.Founded name) calm causes = absurd causes
grew_by link disk a b (ends.Proxied n paid) calm causes = absurd causes
grew_by link disk a b ends.BadWords calm causes = absurd causes
grew_by link disk a b (ends.Stranger name id) calm causes = absurd causes

pub init_grew : {O : Type 0} (link : O → LinkView) (disk : O → DiskView) (a b : O) (status : Status) → Calm link disk a b → InitCauses link disk a status b → (link a).faults ≤ (link b).faults
init_grew link disk a b ends.DiskFault calm causes = absurd (calm.disk' causes.disk')
init_grew link disk a b (ends.Founded name) calm causes = stayed (link a).faults (link b).faults causes.link'
init_grew link disk a b ends.NoMemory calm causes = stayed (link a).faults (link b).faults causes.link'
init_grew link disk a b (ends.Refused f) calm causes = stayed (link a).faults (link b).faults causes.1.link'
init_grew link disk a b ends.LinkFault calm causes = absurd causes
init_grew link disk a b ends.Done calm causes = absurd causes
init_grew link disk a b (ends.Did line) calm causes = absurd causes
init_grew link disk a b ends.NotJournal calm causes = absurd causes
init_grew link disk a b (ends.BadEntry place) calm causes = absurd causes
init_grew link disk a b (ends.BadChain place) calm causes = absurd causes
init_grew link disk a b (ends.UnlawfulEntry place) calm causes = absurd causes
init_grew link disk a b (ends.Served n) calm causes = absurd causes
init_grew link disk a b (ends.Proxied n paid) calm causes = absurd causes
init_grew link disk a b ends.BadWords calm causes = absurd causes
init_grew link disk a b (ends.Stranger name id) calm causes = absurd causes

-- ---- a lawful book is opened

-- it was opened, unless memory was refused
only_memory : {O : Type 0} (link : O → LinkView) (disk : O → DiskView) (h : History) (bytes : List ℕ) (a b : O) (status : Status) → Encodes h bytes → IsWalletBook h → Calm link disk a b → WalletCauses link disk a status b
    → NotOpened link disk bytes a status b → number_of status ≡ 5
only_memory link disk h bytes a b ends.NoMemory st lawful calm causes not = refl
only_memory link disk h bytes a b ends.DiskFault st lawful calm causes not = absurd (calm.disk' causes.disk')
only_memory link disk h bytes a b ends.NotJournal st lawful calm causes not = absurd (not.0 (begins_with_header h bytes st))
only_memory link disk h bytes a b (ends.BadEntry place) st lawful calm causes not = absurd (not_spoiled WalletFollows (Only 2) h bytes place st not.0)
only_memory link disk h bytes a b (ends.BadChain place) st lawful calm causes not = absurd (not_unchained WalletFollows (Only 2) h bytes place not.0.0 not.0.1 st not.0.2)
only_memory link disk h bytes a b (ends.UnlawfulEntry place) st lawful calm causes not = absurd (no_entry_breaks h bytes place st lawful not.0)
only_memory link disk h bytes a b (ends.Refused f) st lawful calm causes not = absurd (not_of_other h bytes st lawful not.1)
only_memory link disk h bytes a b ends.LinkFault st lawful calm causes not = absurd not
only_memory link disk h bytes a b ends.Done st lawful calm causes not = absurd not
only_memory link disk h bytes a b (ends.Did line) st lawful calm causes not = absurd not
only_memory link disk h bytes a b (ends.Served n) st lawful calm causes not = absurd not
only_memory link disk h bytes a b (ends.Founded name) st lawful calm causes not = absurd not
only_memory link disk h bytes a b (ends.Proxied n paid) st lawful calm causes not = absurd not
only_memory link disk h bytes a b ends.BadWords st lawful calm causes not = absurd not
only_memory link disk h bytes a b (ends.Stranger name id) st lawful calm causes not = absurd not

-- ---- how it ends

-- it is done, memory was refused, or a refusal is told
abbrev pub Well : Status → Type 0
Well status = (number_of status ≡ 0) ⊎ ((number_of status ≡ 5) ⊎ (number_of status ≡ 7))

pub init_well : {O : Type 0} (link : O → LinkView) (disk : O → DiskView) (a b : O) (status : Status) → Calm link disk a b → InitCauses link disk a status b → Well status
init_well link disk a b (ends.Founded name) calm causes = inl refl
init_well link disk a b ends.NoMemory calm causes = inr (inl refl)
init_well link disk a b (ends.Refused f) calm causes = inr (inr refl)
init_well link disk a b ends.DiskFault calm causes = absurd (calm.disk' causes.disk')
init_well link disk a b ends.LinkFault calm causes = absurd causes
init_well link disk a b ends.Done calm causes = absurd causes
init_well link disk a b (ends.Did line) calm causes = absurd causes
init_well link disk a b ends.NotJournal calm causes = absurd causes
init_well link disk a b (ends.BadEntry place) calm causes = absurd causes
init_well link disk a b (ends.BadChain place) calm causes = absurd causes
init_well link disk a b (ends.UnlawfulEntry place) calm causes = absurd causes
init_well link disk a b (ends.Served n) calm causes = absurd causes
init_well link disk a b (ends.Proxied n paid) calm causes = absurd causes
init_well link disk a b ends.BadWords calm causes = absurd causes
init_well link disk a b (ends.Stranger name id) calm causes = absurd causes

-- the status is none of a book that can't be read
abbrev Readable : Status → Type 0
Readable status = number_of status ≡ 3 → ⊥

well_by : {O : Type 0} (link : O → LinkView) (disk : O → DiskView) (a b : O) (status : Status) → Calm link disk a b → WalletCauses link disk a status b → Readable status → Well status
well_by link disk a b ends.NoMemory calm causes three = inr (inl refl)
well_by link disk a b ends.DiskFault calm causes three = absurd (calm.disk' causes.disk')
well_by link disk a b ends.LinkFault calm causes three = absurd (calm.link' causes.link')
well_by link disk a b ends.Done calm causes three = inl refl
well_by link disk a b (ends.Did line) calm causes three = inl refl
well_by link disk a b (ends.Refused f) calm causes three = inr (inr refl)
well_by link disk a b ends.NotJournal calm causes three = absurd (three refl)
well_by link disk a b (ends.BadEntry place) calm causes three = absurd (three refl)
well_by link disk a b (ends.BadChain place) calm causes three = absurd (three refl)
well_by link disk a b (ends.UnlawfulEntry place) calm causes three = absurd (three refl)
well_by link disk a b (ends.Served n) calm causes three = absurd causes
well_by link disk a b (ends.Founded name) calm causes three = absurd causes
well_by link disk a b (ends.Proxied n paid) calm causes three = absurd causes
well_by link disk a b ends.BadWords calm causes three = absurd causes
well_by link disk a b (ends.Stranger name id) calm causes three = absurd causes

told_as : (status other : Status) → status ≡ other → Readable other → Readable status
told_as status other same readable is = readable (sym (ap number_of same) ∙ is)

-- ---- taking and listing

took_readable : (d : DiskView) (h : History) (todo : Result Entry Refusal) (status : Status) → TookBy d h todo status → Readable status
took_readable d h (Ok e) ends.NotJournal took is = took
took_readable d h (Ok e) (ends.BadEntry place) took is = took
took_readable d h (Ok e) (ends.BadChain place) took is = took
took_readable d h (Ok e) (ends.UnlawfulEntry place) took is = took
took_readable d h (Err f) ends.NotJournal took is = took
took_readable d h (Err f) (ends.BadEntry place) took is = took
took_readable d h (Err f) (ends.BadChain place) took is = took
took_readable d h (Err f) (ends.UnlawfulEntry place) took is = took
took_readable d h todo status took is = absurd (cc is)

unread_readable : {O : Type 0} (link : O → LinkView) (a b : O) (status : Status) → ((status ≡ ends.LinkFault) × LostInput (link a) (link b)) ⊎ ((status ≡ ends.NoMemory) × (link b ≡ link a)) → Readable status
unread_readable link a b status (inl lost) = told_as status ends.LinkFault lost.0 (λ is. cc is)
unread_readable link a b status (inr wants) = told_as status ends.NoMemory wants.0 (λ is. cc is)

pub took_well : {O : Type 0} (link : O → LinkView) (disk : O → DiskView) (a b : O) (status : Status) (has : HasWallet (disk a)) → Calm link disk a b → WalletCauses link disk a status b → TakesBook link disk has.bytes a status b → Well status
took_well link disk a b status has calm causes (inl not) = inr (inl (only_memory link disk has.history has.bytes a b status has.stands has.lawful calm causes not))
took_well link disk a b status has calm causes (inr (inl unread)) = well_by link disk a b status calm causes (unread_readable link a b status unread.lost)
took_well link disk a b status has calm causes (inr (inr took)) = well_by link disk a b status calm causes (took_readable (disk b) took.history (take_entry took.history (max (time took.history) took.moment) took.input) status took.took)

pub listed_well : {O : Type 0} (link : O → LinkView) (disk : O → DiskView) (a b : O) (status : Status) (has : HasWallet (disk a)) → Calm link disk a b → WalletCauses link disk a status b → ListsBook link disk has.bytes a status b
    → (number_of status ≡ 0) ⊎ (number_of status ≡ 5)
listed_well link disk a b status has calm causes (inl not) = inr (only_memory link disk has.history has.bytes a b status has.stands has.lawful calm causes not)
listed_well link disk a b status has calm causes (inr listed) = by_said listed.said
  where
    by_said : (status ≡ ends.Did (holding_lines (holdings listed.history))) ⊎ (status ≡ ends.NoMemory) → (number_of status ≡ 0) ⊎ (number_of status ≡ 5)
    by_said (inl did) = inl (ap number_of did)
    by_said (inr wants) = inr (ap number_of wants)

held_readable : (os : List Offered) (status : Status) → SaysHeld os status → Readable status
held_readable os ends.NotJournal said is = said
held_readable os (ends.BadEntry place) said is = said
held_readable os (ends.BadChain place) said is = said
held_readable os (ends.UnlawfulEntry place) said is = said
held_readable os status said is = absurd (cc is)

pub told_well : {O : Type 0} (link : O → LinkView) (disk : O → DiskView) (vendor : List ℕ) (a b : O) (status : Status) (has : HasWallet (disk a)) → Calm link disk a b → WalletCauses link disk a status b → ListsHeld link disk vendor has.bytes a status b → Well status
told_well link disk vendor a b status has calm causes (inl not) = inr (inl (only_memory link disk has.history has.bytes a b status has.stands has.lawful calm causes not))
told_well link disk vendor a b status has calm causes (inr at) = well_by link disk a b status calm causes (held_readable (resold_for at.history (max (time at.history) at.moment) vendor) status at.does.0)

-- ---- paying, renewing and trying again

got_readable : (o : Option Scrip) → Readable (unwrap_or (option_map (λ x. ends.Did (got_line x)) o) ends.Done)
got_readable None is = cc is
got_readable (Some x) is = cc is

ended_readable : (p : Pending) (r : Received) → Readable (ended_by p r)
ended_readable p r is = by_test (r.status == 200) refl
  where
    by_test : (b : Bool) → (r.status == 200) ≡ b → ⊥
    by_test true test = got_readable (bought p.ask r.contents) (rw test at is)
    by_test false test = cc (rw test at is)

renewed_readable : (vendor : List ℕ) (h : History) (e : Entry) (r : Received) → Readable (renewed_by vendor h e r)
renewed_readable vendor h e r is = by_test (r.status == 200) refl
  where
    by_test : (b : Bool) → (r.status == 200) ≡ b → ⊥
    by_test true test = cc (rw test at is)
    by_test false test = cc (rw test at is)

told_readable : (k : Saying) (h : History) (e : Entry) (p : Pending) (r : Received) → Readable (ended_as k h e p r)
told_readable sayings.Contents h e p r = ended_readable p r
told_readable (sayings.Renewal vendor) h e p r = renewed_readable vendor h e r

settled_readable : (k : Saying) (h : History) (t n : ℕ) (p : Pending) (r : Received) (before : LinkView) (status : Status) (d : DiskView) (after : LinkView) → SettlesAs k h t n p r before status d after → Readable status
settled_readable k h t n p r before ends.NotJournal d after settles is = by_end settles.1
  where
    by_end : ((ends.NotJournal ≡ ended_as k h (settlement h t n p r) p r) × EncodesWallet d (h ++ settlement h t n p r ∷ [])) ⊎ ((f : Refusal) × (ends.NotJournal ≡ ends.Refused f) × (fitted h FULL (settlement h t n p r) ≡ Err (lines.Refuse f)) × EncodesWallet d h) → ⊥
    by_end (inl done) = told_as ends.NotJournal (ended_as k h (settlement h t n p r) p r) done.0 (told_readable k h (settlement h t n p r) p r) refl
    by_end (inr full) = told_as ends.NotJournal (ends.Refused full.0) full.1 (λ e. cc e) refl
settled_readable k h t n p r before (ends.BadEntry place) d after settles is = by_end settles.1
  where
    by_end : ((ends.BadEntry place ≡ ended_as k h (settlement h t n p r) p r) × EncodesWallet d (h ++ settlement h t n p r ∷ [])) ⊎ ((f : Refusal) × (ends.BadEntry place ≡ ends.Refused f) × (fitted h FULL (settlement h t n p r) ≡ Err (lines.Refuse f)) × EncodesWallet d h) → ⊥
    by_end (inl done) = told_as (ends.BadEntry place) (ended_as k h (settlement h t n p r) p r) done.0 (told_readable k h (settlement h t n p r) p r) refl
    by_end (inr full) = told_as (ends.BadEntry place) (ends.Refused full.0) full.1 (λ e. cc e) refl
settled_readable k h t n p r before (ends.BadChain place) d after settles is = by_end settles.1
  where
    by_end : ((ends.BadChain place ≡ ended_as k h (settlement h t n p r) p r) × EncodesWallet d (h ++ settlement h t n p r ∷ [])) ⊎ ((f : Refusal) × (ends.BadChain place ≡ ends.Refused f) × (fitted h FULL (settlement h t n p r) ≡ Err (lines.Refuse f)) × EncodesWallet d h) → ⊥
    by_end (inl done) = told_as (ends.BadChain place) (ended_as k h (settlement h t n p r) p r) done.0 (told_readable k h (settlement h t n p r) p r) refl
    by_end (inr full) = told_as (ends.BadChain place) (ends.Refused full.0) full.1 (λ e. cc e) refl
settled_readable k h t n p r before (ends.UnlawfulEntry place) d after settles is = by_end settles.1
  where
    by_end : ((ends.UnlawfulEntry place ≡ ended_as k h (settlement h t n p r) p r) × EncodesWallet d (h ++ settlement h t n p r ∷ [])) ⊎ ((f : Refusal) × (ends.UnlawfulEntry place ≡ ends.Refused f) × (fitted h FULL (settlement h t n p r) ≡ Err (lines.Refuse f)) × EncodesWallet d h) → ⊥
    by_end (inl done) = told_as (ends.UnlawfulEntry place) (ended_as k h (settlement h t n p r) p r) done.0 (told_readable k h (settlement h t n p r) p r) refl
    by_end (inr full) = told_as (ends.UnlawfulEntry place) (ends.Refused full.0) full.1 (λ e. cc e) refl
settled_readable k h t n p r before status d after settles is = absurd (cc is)

ends_readable : (k : Saying) (h : History) (t n : ℕ) (p : Pending) (learned : Learned) (before : LinkView) (status : Status) (d : DiskView) (after : LinkView) → EndsAs k h t n p learned before status d after → Readable status
ends_readable k h t n p (Stays f) before status d after by = told_as status (ends.Refused f) by.0 (λ is. cc is)
ends_readable k h t n p Breaks before status d after by = told_as status ends.LinkFault by.0 (λ is. cc is)
ends_readable k h t n p (Settles r) before status d after by = settled_readable k h t n p r before status d after by

used_readable : (k : Saying) {O : Type 0} (link : O → LinkView) (disk : O → DiskView) (h : History) (t n : ℕ) (p : Pending) (a b : O) (status : Status) → UsesLinkAs k link disk h t n p a status b → Readable status
used_readable k link disk h t n p a b status used = ends_readable k h t n p used.learned used.middle status (disk b) (link b) used.ends'

paid_readable : (k : Saying) {O : Type 0} (link : O → LinkView) (disk : O → DiskView) (h : History) (t : ℕ) (todo : Result Entry Refusal) (a b : O) (clocked : LinkView) (status : Status) → PaysAs k link disk h t todo a clocked status b → Readable status
paid_readable k link disk h t (Err f) a b clocked status (is, not) = told_as status (ends.Refused f) is (λ e. cc e)
paid_readable k link disk h t (Ok e) a b clocked status (inl (inl wants, not)) = told_as status ends.NoMemory wants.0 (λ x. cc x)
paid_readable k link disk h t (Ok e) a b clocked status (inl (inr full, not)) = told_as status (ends.Refused full.0) full.1 (λ x. cc x)
paid_readable k link disk h t (Ok e) a b clocked status (inr (inl doubt)) = told_as status ends.DiskFault doubt.0 (λ x. cc x)
paid_readable k link disk h t (Ok e) a b clocked status (inr (inr asked)) = used_readable k link disk (h ++ e ∷ []) t (length h) asked.p asked.entered b status asked.since

pub paid_well : {O : Type 0} (link : O → LinkView) (disk : O → DiskView) (asking : Asking) (a b : O) (status : Status) (has : HasWallet (disk a)) → Calm link disk a b → WalletCauses link disk a status b → PaysBook link disk asking has.bytes a status b → Well status
paid_well link disk asking a b status has calm causes (inl not) = inr (inl (only_memory link disk has.history has.bytes a b status has.stands has.lawful calm causes not))
paid_well link disk asking a b status has calm causes (inr (inl wanted)) = inr (inl (ap number_of wanted.memory))
paid_well link disk asking a b status has calm causes (inr (inr at)) =
    well_by link disk a b status calm causes
    (paid_readable sayings.Contents link disk at.history (max (time at.history) at.moment) (pend_entry at.history (max (time at.history) at.moment) asking) a b at.clocked status at.does)

pub renewed_well : {O : Type 0} (link : O → LinkView) (disk : O → DiskView) (vendor target : List ℕ) (before : ℕ) (a b : O) (status : Status) (has : HasWallet (disk a)) → Calm link disk a b → WalletCauses link disk a status b → RenewsBook link disk vendor target before has.bytes a status b → Well status
renewed_well link disk vendor target before a b status has calm causes (inl not) = inr (inl (only_memory link disk has.history has.bytes a b status has.stands has.lawful calm causes not))
renewed_well link disk vendor target before a b status has calm causes (inr (inl wanted)) = inr (inl (ap number_of wanted.memory))
renewed_well link disk vendor target before a b status has calm causes (inr (inr at)) =
    well_by link disk a b status calm causes
    (paid_readable (sayings.Renewal vendor) link disk at.history (max (time at.history) at.moment) (due_entry at.history (max (time at.history) at.moment) vendor target before) a b at.clocked status at.does)

tried_readable : {O : Type 0} (link : O → LinkView) (disk : O → DiskView) (h : History) (t : ℕ) (o : Option (ℕ × Pending)) (a b : O) (clocked : LinkView) (status : Status) → RetriesBy link disk h t o a clocked status b → Readable status
tried_readable link disk h t None a b clocked status by = told_as status (ends.Refused refusals.Nothing) by.0 (λ e. cc e)
tried_readable link disk h t (Some k) a b clocked status by = used_readable sayings.Contents link disk h t k.0 k.1 by.kept b status by.since

pub tried_well : {O : Type 0} (link : O → LinkView) (disk : O → DiskView) (peer : List ℕ) (a b : O) (status : Status) (has : HasWallet (disk a)) → Calm link disk a b → WalletCauses link disk a status b → RetriesBook link disk peer has.bytes a status b → Well status
tried_well link disk peer a b status has calm causes (inl not) = inr (inl (only_memory link disk has.history has.bytes a b status has.stands has.lawful calm causes not))
tried_well link disk peer a b status has calm causes (inr (inl wanted)) = inr (inl (ap number_of wanted.memory))
tried_well link disk peer a b status has calm causes (inr (inr at)) =
    well_by link disk a b status calm causes (tried_readable link disk at.history (max (time at.history) at.moment) (oldest_kept at.history peer) a b at.clocked status at.does)

-- ---- telling the chain

chained_readable : (d : DiskView) (h : History) (todo : Option Entry) (status : Status) → ChainedBy d h todo status → Readable status
chained_readable d h (Some e) ends.NotJournal did is = did
chained_readable d h (Some e) (ends.BadEntry place) did is = did
chained_readable d h (Some e) (ends.BadChain place) did is = did
chained_readable d h (Some e) (ends.UnlawfulEntry place) did is = did
chained_readable d h None ends.NotJournal did is = did
chained_readable d h None (ends.BadEntry place) did is = did
chained_readable d h None (ends.BadChain place) did is = did
chained_readable d h None (ends.UnlawfulEntry place) did is = did
chained_readable d h todo status did is = absurd (cc is)

pub switch_grew : {O : Type 0} (link : O → LinkView) (disk : O → DiskView) (a b : O) (status : Status) → Calm link disk a b → SwitchCauses link disk a status b → (link a).faults ≤ (link b).faults
switch_grew link disk a b status calm causes = grew_by link disk a b status calm (switch_causes_so link disk a b status causes)

pub chained_well : {O : Type 0} (link : O → LinkView) (disk : O → DiskView) (a b : O) (status : Status) (has : HasWallet (disk a)) → Calm link disk a b → SwitchCauses link disk a status b → ChainsBook link disk has.bytes a status b → Well status
chained_well link disk a b status has calm causes (inl not) = inr (inl (only_memory link disk has.history has.bytes a b status has.stands has.lawful calm (switch_causes_so link disk a b status causes) not))
chained_well link disk a b status has calm causes (inr (inl wanted)) = inr (inl (ap number_of wanted.memory))
chained_well link disk a b status has calm causes (inr (inr at)) =
    well_by link disk a b status calm (switch_causes_so link disk a b status causes) (chained_readable (disk b) at.history (switch_entry at.history (max (time at.history) at.moment)) status at.does.did)
