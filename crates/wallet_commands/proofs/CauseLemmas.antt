-- Causes of one stretch after another.
use Rattle.std.proofs.Common.{◌≡◌, ◌∙◌, inl, inr, ℕ, List, refl, sym, ap, subst, Err}
use Rattle.mc_outside.specs.Bytes.{Rose}
use Rattle.mc_outside.specs.DiskView.{DiskView, LinkKeeps}
use Rattle.mc_outside.specs.LinkView.{LinkView, next_taken, after_send}
use Rattle.mc_requests.specs.declared.refusal.Refusal.{Refusal}
use Rattle.mc_requests.specs.declared.refusal.Refusal.TheVariants as refusals
use Rattle.scrip_journal.specs.declared.fault.HouseFault.{HouseFault}
use Rattle.scrip_journal.specs.declared.fault.HouseFault.TheVariants as faults
use Rattle.scrip_journal.specs.Founds.{fault_disk, CountsBy}
use Rattle.book_opening.specs.Opening.{CountedBy}
use Rattle.command_status.specs.declared.status.Status.{Status}
use Rattle.command_status.specs.declared.status.Status.TheVariants as ends
use Rattle.command_status.specs.Faults.{fault_status}
use Rattle.millicent_http.specs.Received.{Received}
use Rattle.wallet_core.specs.declared.outcome.WalletOut.{WalletOut}
use Rattle.wallet_core.specs.declared.outcome.WalletOut.TheVariants as outs
use Rattle.wallet_core.specs.Answers.{TellsOnly, Any, IsFull, MayCheck, MayPend, MayTake}
use Rattle.wallet_core.specs.Outcomes.{outcome_disk, CountsFaults}
use Rattle.wallet_commands.specs.Books.{outcome_status}
use Rattle.wallet_commands.specs.Causes.{NoneFailed, DiskFailed, LinkFailed, SettleRefused, CheckRefused, ReplyRefused, ReadRefused, LinkRefused, OnlyClocked, InputTaken, RefusedBy, CausesBy, BookCausesBy, WalletCauses, SwitchRefused, SwitchCauses}
use Rattle.wallet_commands.specs.Founding.{InitCauses}

-- calls of the links alone, by the counts of faults
pub none_linked : {O : Type 0} (link : O → LinkView) (disk : O → DiskView) (a b : O) → LinkKeeps (disk a) (disk b) → (link b).faults ≡ (link a).faults → NoneFailed link disk a b
none_linked link disk a b keeps same = record { disk' = keeps.faults; link' = same }

-- calls of the disk alone
pub none_on_disk : {O : Type 0} (link : O → LinkView) (disk : O → DiskView) (a b : O) → (disk b).faults ≡ (disk a).faults → link b ≡ link a → NoneFailed link disk a b
none_on_disk link disk a b counts same = record { disk' = counts; link' = ap (λ (v : LinkView). v.faults) same }

pub none_then : {O : Type 0} (link : O → LinkView) (disk : O → DiskView) (a m b : O) → NoneFailed link disk a m → NoneFailed link disk m b → NoneFailed link disk a b
none_then link disk a m b first second = record { disk' = second.disk' ∙ first.disk'; link' = second.link' ∙ first.link' }

pub disk_then : {O : Type 0} (link : O → LinkView) (disk : O → DiskView) (a m b : O) → NoneFailed link disk a m → DiskFailed link disk m b → DiskFailed link disk a b
disk_then link disk a m b first second = record { disk' = subst (λ (n : ℕ). Rose n (disk b).faults) first.disk' second.disk'; link' = second.link' ∙ first.link' }

pub link_then : {O : Type 0} (link : O → LinkView) (disk : O → DiskView) (a m b : O) → NoneFailed link disk a m → LinkFailed link disk m b → LinkFailed link disk a b
link_then link disk a m b first second = record { disk' = second.disk' ∙ first.disk'; link' = subst (λ (n : ℕ). Rose n (link b).faults) first.link' second.link' }

-- the causes from an outside on, up to which no call failed
pub causes_from : {O : Type 0} (R S : Refusal → LinkView → LinkView → Type 0) (link : O → LinkView) (disk : O → DiskView) (a m b : O) (status : Status) → NoneFailed link disk a m → ((f : Refusal) → R f (link m) (link b) → S f (link a) (link b))
    → CausesBy R link disk m status b → CausesBy S link disk a status b
causes_from R S link disk a m b ends.DiskFault first so second = disk_then link disk a m b first second
causes_from R S link disk a m b ends.LinkFault first so second = link_then link disk a m b first second
causes_from R S link disk a m b ends.Done first so second = none_then link disk a m b first second
causes_from R S link disk a m b (ends.Did line) first so second = none_then link disk a m b first second
causes_from R S link disk a m b ends.NoMemory first so second = none_then link disk a m b first second
causes_from R S link disk a m b ends.NotJournal first so second = absurd second
causes_from R S link disk a m b (ends.BadEntry place) first so second = absurd second
causes_from R S link disk a m b (ends.BadChain place) first so second = absurd second
causes_from R S link disk a m b (ends.UnlawfulEntry place) first so second = absurd second
causes_from R S link disk a m b (ends.Refused f) first so second = (none_then link disk a m b first second.0, so f second.1)
causes_from R S link disk a m b (ends.Served n) first so second = absurd second
causes_from R S link disk a m b (ends.Founded name) first so second = absurd second
causes_from R S link disk a m b (ends.Proxied n paid) first so second = absurd second
causes_from R S link disk a m b ends.BadWords first so second = absurd second
causes_from R S link disk a m b (ends.Stranger name id) first so second = absurd second

-- a book that was opened is none that can't be read
opened_by : {O : Type 0} (R : Refusal → LinkView → LinkView → Type 0) (link : O → LinkView) (disk : O → DiskView) (a b : O) (status : Status) → CausesBy R link disk a status b → BookCausesBy R link disk a status b
opened_by R link disk a b ends.NotJournal causes = absurd causes
opened_by R link disk a b (ends.BadEntry place) causes = absurd causes
opened_by R link disk a b (ends.BadChain place) causes = absurd causes
opened_by R link disk a b (ends.UnlawfulEntry place) causes = absurd causes
opened_by R link disk a b status causes = causes

-- from the outside on that was opened
pub causes_opened : {O : Type 0} (link : O → LinkView) (disk : O → DiskView) (a m b : O) (status : Status) → NoneFailed link disk a m → link m ≡ link a → CausesBy RefusedBy link disk m status b → WalletCauses link disk a status b
causes_opened link disk a m b status first same second =
    opened_by RefusedBy link disk a b status (causes_from RefusedBy RefusedBy link disk a m b status first (λ f why. subst (λ (v : LinkView). RefusedBy f v (link b)) same why) second)

-- ---- refusals

pub full_check : (r : Received) (f : Refusal) → IsFull f → SettleRefused r f
full_check r (refusals.JournalFull size payload) is = tt
full_check r f is = absurd is

-- what a settlement is refused by is no check of its reply
pub settle_check : (r : Received) (f : Refusal) (v w : LinkView) → SettleRefused r f → CheckRefused r f v w
settle_check r refusals.BadReply v w is = absurd is
settle_check r refusals.Unproved v w is = absurd is
settle_check r f v w is = is

pub checked_so : (r : Received) (f : Refusal) (v : LinkView) → MayCheck f → CheckRefused r f v v
checked_so r refusals.BadReply v is = refl
checked_so r refusals.Unproved v is = refl
checked_so r f v is = absurd is

pub read_so : (f : Refusal) (v w : LinkView) → ReplyRefused f v w → ReadRefused f v w
read_so refusals.NoReply v w by = absurd by.3
read_so refusals.BadReply v w by = inr by
read_so f v w by = by

pub sent_so : (f : Refusal) (request : List ℕ) (v w : LinkView) → ReadRefused f (after_send request (next_taken v)) w → LinkRefused f v w
sent_so refusals.NoLink request v w why = absurd why.3
sent_so refusals.Nothing request v w why = absurd why.3
sent_so f request v w why = (request, why)

-- once the clock was read
pub clocked_so : (f : Refusal) (v c w : LinkView) → OnlyClocked v c → LinkRefused f c w → RefusedBy f v w
clocked_so refusals.WrongKind v c w clocked why = absurd why.1.3
clocked_so (refusals.BadInput line) v c w clocked why = absurd why.1.3
clocked_so (refusals.TwiceHeld id) v c w clocked why = absurd why.1.3
clocked_so (refusals.NoFunds greatest) v c w clocked why = absurd why.1.3
clocked_so refusals.Nothing v c w clocked why = subst (λ (u : LinkView). OnlyClocked v u) (sym why) clocked
clocked_so refusals.NothingDue v c w clocked why = absurd why.1.3
clocked_so (refusals.JournalFull size payload) v c w clocked why = inr (inr (c, clocked, why))
clocked_so f v c w clocked why = (c, clocked, why)

pub pended_so : (f : Refusal) (v w : LinkView) → OnlyClocked v w → MayPend f → RefusedBy f v w
pended_so (refusals.NoFunds greatest) v w clocked may = clocked
pended_so (refusals.JournalFull size payload) v w clocked may = inr (inl clocked)
pended_so f v w clocked may = absurd may

pub taken_so : (f : Refusal) (v w : LinkView) → InputTaken v w → MayTake f → RefusedBy f v w
taken_so (refusals.BadInput line) v w taken may = taken
taken_so (refusals.TwiceHeld id) v w taken may = taken
taken_so (refusals.JournalFull size payload) v w taken may = inl taken
taken_so f v w taken may = absurd may

pub full_so : (f : Refusal) (v w : LinkView) → OnlyClocked v w → IsFull f → RefusedBy f v w
full_so (refusals.JournalFull size payload) v w clocked is = inr (inl clocked)
full_so f v w clocked is = absurd is

-- what a wallet did, of which a line is told where it is done
pub outcome_causes : {O A : Type 0} (May : Refusal → Type 0) (said : A → List ℕ) (link : O → LinkView) (disk : O → DiskView) (y : O) (out : WalletOut O A) → CountsFaults out (disk y).faults (disk (outcome_disk out)).faults
    → link (outcome_disk out) ≡ link y → TellsOnly May Any out → CausesBy (λ f v w. May f × (w ≡ v)) link disk y (outcome_status (λ a. ends.Did (said a)) out) (outcome_disk out)
outcome_causes May said link disk y (outs.Done x a) counts same told = record { disk' = counts; link' = ap (λ (v : LinkView). v.faults) same }
outcome_causes May said link disk y (outs.Refused x f) counts same told = (record { disk' = counts; link' = ap (λ (v : LinkView). v.faults) same }, (told, same))
outcome_causes May said link disk y (outs.NoMemory x) counts same told = record { disk' = counts; link' = ap (λ (v : LinkView). v.faults) same }
outcome_causes May said link disk y (outs.Halted d) counts same told = record { disk' = counts; link' = ap (λ (v : LinkView). v.faults) same }

-- why a book was not opened
pub opening_causes : {O : Type 0} (A : Type 0) (link : O → LinkView) (disk : O → DiskView) (a : O) (fault : HouseFault O) → CountedBy {D = O} {A = A} (Err fault) (disk a).faults (disk (fault_disk fault)).faults
    → link (fault_disk fault) ≡ link a → WalletCauses link disk a (fault_status fault) (fault_disk fault)
opening_causes A link disk a (faults.NotJournal d) counts same = (record { disk' = counts; link' = ap (λ (v : LinkView). v.faults) same }, same)
opening_causes A link disk a (faults.BadRecord d place) counts same = (record { disk' = counts; link' = ap (λ (v : LinkView). v.faults) same }, same)
opening_causes A link disk a (faults.BadChain d place stood computed) counts same = (record { disk' = counts; link' = ap (λ (v : LinkView). v.faults) same }, same)
opening_causes A link disk a (faults.Unlawful d place) counts same = (record { disk' = counts; link' = ap (λ (v : LinkView). v.faults) same }, same)
opening_causes A link disk a (faults.WrongKind d) counts same = (record { disk' = counts; link' = ap (λ (v : LinkView). v.faults) same }, same)
opening_causes A link disk a (faults.NotEmpty d size) counts same = absurd counts
opening_causes A link disk a (faults.Disk d) counts same = record { disk' = counts; link' = ap (λ (v : LinkView). v.faults) same }
opening_causes A link disk a (faults.NoMemory d) counts same = record { disk' = counts; link' = ap (λ (v : LinkView). v.faults) same }

-- why a book was not founded
pub founding_causes : {O : Type 0} (A : Type 0) (link : O → LinkView) (disk : O → DiskView) (a : O) (fault : HouseFault O) → CountsBy {D = O} {A = A} (Err fault) (disk a).faults (disk (fault_disk fault)).faults
    → (link (fault_disk fault)).faults ≡ (link a).faults → InitCauses link disk a (fault_status fault) (fault_disk fault)
founding_causes A link disk a (faults.NotEmpty d size) counts same = ((size, refl), record { disk' = counts; link' = same })
founding_causes A link disk a (faults.NoMemory d) counts same = record { disk' = counts; link' = same }
founding_causes A link disk a (faults.Disk d) counts same = record { disk' = counts; link' = same }
founding_causes A link disk a (faults.NotJournal d) counts same = absurd counts
founding_causes A link disk a (faults.BadRecord d place) counts same = absurd counts
founding_causes A link disk a (faults.BadChain d place stood computed) counts same = absurd counts
founding_causes A link disk a (faults.Unlawful d place) counts same = absurd counts
founding_causes A link disk a (faults.WrongKind d) counts same = absurd counts

-- ---- of telling the chain

-- links that are as they were had their clock read at most
still_clocked : (v w : LinkView) → w ≡ v → OnlyClocked v w
still_clocked v w same = subst (λ (u : LinkView). OnlyClocked v u) (sym same) refl

full_switch : (f : Refusal) (v w : LinkView) → OnlyClocked v w → IsFull f → SwitchRefused f v w
full_switch (refusals.JournalFull size payload) v w clocked is = clocked
full_switch f v w clocked is = absurd is

-- once the clock was read
pub switch_causes : {O A : Type 0} (line : List ℕ) (link : O → LinkView) (disk : O → DiskView) (a y : O) (out : WalletOut O A) → NoneFailed link disk a y → OnlyClocked (link a) (link y) → CountsFaults out (disk y).faults (disk (outcome_disk out)).faults
    → link (outcome_disk out) ≡ link y → TellsOnly IsFull Any out → SwitchCauses link disk a (outcome_status (λ n. ends.Did line) out) (outcome_disk out)
switch_causes line link disk a y (outs.Done x n) first clocked counts same told =
    (none_then link disk a y x.journal.disk first (none_on_disk link disk y x.journal.disk counts same), subst (λ (v : LinkView). OnlyClocked (link a) v) (sym same) clocked)
switch_causes line link disk a y (outs.Refused x f) first clocked counts same told =
    let now = subst (λ (v : LinkView). OnlyClocked (link a) v) (sym same) clocked in
    ((none_then link disk a y x.journal.disk first (none_on_disk link disk y x.journal.disk counts same), full_switch f (link a) (link x.journal.disk) now told), now)
switch_causes line link disk a y (outs.NoMemory x) first clocked counts same told =
    (none_then link disk a y x.journal.disk first (none_on_disk link disk y x.journal.disk counts same), subst (λ (v : LinkView). OnlyClocked (link a) v) (sym same) clocked)
switch_causes line link disk a y (outs.Halted d) first clocked counts same told =
    (disk_then link disk a y d first (record { disk' = counts; link' = ap (λ (v : LinkView). v.faults) same }), subst (λ (v : LinkView). OnlyClocked (link a) v) (sym same) clocked)

-- memory was refused before
pub switch_wanted : {O : Type 0} (link : O → LinkView) (disk : O → DiskView) (a b : O) → (disk b).faults ≡ (disk a).faults → link b ≡ link a → SwitchCauses link disk a ends.NoMemory b
switch_wanted link disk a b counts same = (none_on_disk link disk a b counts same, still_clocked (link a) (link b) same)

-- why a book was not opened
pub switch_unopened : {O : Type 0} (A : Type 0) (link : O → LinkView) (disk : O → DiskView) (a : O) (fault : HouseFault O) → CountedBy {D = O} {A = A} (Err fault) (disk a).faults (disk (fault_disk fault)).faults
    → link (fault_disk fault) ≡ link a → SwitchCauses link disk a (fault_status fault) (fault_disk fault)
switch_unopened A link disk a (faults.NotJournal d) counts same = ((none_on_disk link disk a d counts same, same), still_clocked (link a) (link d) same)
switch_unopened A link disk a (faults.BadRecord d place) counts same = ((none_on_disk link disk a d counts same, same), still_clocked (link a) (link d) same)
switch_unopened A link disk a (faults.BadChain d place stood computed) counts same = ((none_on_disk link disk a d counts same, same), still_clocked (link a) (link d) same)
switch_unopened A link disk a (faults.Unlawful d place) counts same = ((none_on_disk link disk a d counts same, same), still_clocked (link a) (link d) same)
switch_unopened A link disk a (faults.WrongKind d) counts same = ((none_on_disk link disk a d counts same, same), still_clocked (link a) (link d) same)
switch_unopened A link disk a (faults.NotEmpty d size) counts same = absurd counts
switch_unopened A link disk a (faults.Disk d) counts same = (record { disk' = counts; link' = ap (λ (v : LinkView). v.faults) same }, still_clocked (link a) (link d) same)
switch_unopened A link disk a (faults.NoMemory d) counts same = (none_on_disk link disk a d counts same, still_clocked (link a) (link d) same)

-- from the outside on that was opened
pub switch_opened : {O : Type 0} (link : O → LinkView) (disk : O → DiskView) (a m b : O) (status : Status) → NoneFailed link disk a m → link m ≡ link a → SwitchCauses link disk m status b → SwitchCauses link disk a status b
switch_opened link disk a m b ends.DiskFault first same second = (disk_then link disk a m b first second.0, subst (λ (v : LinkView). OnlyClocked v (link b)) same second.1)
switch_opened link disk a m b (ends.Did line) first same second = (none_then link disk a m b first second.0, subst (λ (v : LinkView). OnlyClocked v (link b)) same second.1)
switch_opened link disk a m b ends.NoMemory first same second = (none_then link disk a m b first second.0, subst (λ (v : LinkView). OnlyClocked v (link b)) same second.1)
switch_opened link disk a m b ends.NotJournal first same second = ((none_then link disk a m b first second.0.0, second.0.1 ∙ same), subst (λ (v : LinkView). OnlyClocked v (link b)) same second.1)
switch_opened link disk a m b (ends.BadEntry place) first same second = ((none_then link disk a m b first second.0.0, second.0.1 ∙ same), subst (λ (v : LinkView). OnlyClocked v (link b)) same second.1)
switch_opened link disk a m b (ends.BadChain place) first same second = ((none_then link disk a m b first second.0.0, second.0.1 ∙ same), subst (λ (v : LinkView). OnlyClocked v (link b)) same second.1)
switch_opened link disk a m b (ends.UnlawfulEntry place) first same second = ((none_then link disk a m b first second.0.0, second.0.1 ∙ same), subst (λ (v : LinkView). OnlyClocked v (link b)) same second.1)
switch_opened link disk a m b (ends.Refused f) first same second =
    ((none_then link disk a m b first second.0.0, subst (λ (v : LinkView). SwitchRefused f v (link b)) same second.0.1), subst (λ (v : LinkView). OnlyClocked v (link b)) same second.1)
switch_opened link disk a m b ends.LinkFault first same second = absurd second
switch_opened link disk a m b ends.Done first same second = absurd second
switch_opened link disk a m b (ends.Served n) first same second = absurd second.0
switch_opened link disk a m b (ends.Founded name) first same second = absurd second.0
switch_opened link disk a m b (ends.Proxied n paid) first same second = absurd second.0
switch_opened link disk a m b ends.BadWords first same second = absurd second.0
switch_opened link disk a m b (ends.Stranger name id) first same second = absurd second.0

refused_switch : (f : Refusal) (v w : LinkView) → SwitchRefused f v w → RefusedBy f v w
refused_switch refusals.WrongKind v w why = why
refused_switch (refusals.JournalFull size payload) v w why = inr (inl why)
refused_switch f v w why = absurd why

-- they are causes of a command of a wallet
pub switch_causes_so : {O : Type 0} (link : O → LinkView) (disk : O → DiskView) (a b : O) (status : Status) → SwitchCauses link disk a status b → WalletCauses link disk a status b
switch_causes_so link disk a b ends.LinkFault causes = absurd causes
switch_causes_so link disk a b ends.Done causes = absurd causes
switch_causes_so link disk a b (ends.Refused f) causes = (causes.0.0, refused_switch f (link a) (link b) causes.0.1)
switch_causes_so link disk a b status causes = causes.0
