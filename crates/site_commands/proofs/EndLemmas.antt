-- How a command ends whose book encodes a lawful history, where no call failed.
use Rattle.std.proofs.Common.{◌≡◌, ◌≤◌, ◌⊎◌, inl, inr, ℕ, List, refl, ap, subst, arith, Some}
use Rattle.mc_outside.specs.DiskView.{DiskView}
use Rattle.mc_outside.specs.LinkView.{LinkView}
use Rattle.ledger_model.specs.Histories.{History}
use Rattle.ledger_model.specs.Houses.{site_kind}
use Rattle.ledger_model.specs.Lawful.{IsLawful}
use Rattle.house_state.specs.Learning.{Test, AllPass, MayEnter}
use Rattle.scrip_journal.specs.Layout.{Encodes}
use Rattle.scrip_journal.specs.Causes.{Only}
use Rattle.house_core.specs.Tasks.{Task}
use Rattle.operator_command.specs.Operations.{OperationView, full}
use Rattle.command_status.specs.declared.status.Status.{Status}
use Rattle.command_status.specs.declared.status.Status.TheVariants as ends
use Rattle.command_status.specs.Statuses.{number_of}
use Rattle.site_commands.specs.Serving.{HasSite, NotOpened, ServesLinksOf, ServesBook, BookCauses, ServeEnds, ServeCauses}
use Rattle.site_commands.specs.Init.{FoundCauses}
use Rattle.site_commands.specs.Operator.{DidBy, OperatesBook, OperateEnds, OperateCauses}
use Rattle.millicent_http.specs.Inputs.{LosesInput}
use Rattle.millicent_http.proofs.InputLemmas.{taken_counts}
pub use Rattle.command_status.proofs.OpenLaws.{Calm}
use Rattle.command_status.proofs.OpenLaws.{begins_with_header, not_spoiled, not_unchained}
use Rattle.site_commands.proofs.OpenLaws.{not_unlawful, not_of_other}

-- ---- the count of the links' faults did not fall

same_count : (v w : LinkView) → w ≡ v → v.faults ≤ w.faults
same_count v w same = let is : w.faults ≡ v.faults = ap (λ (u : LinkView). u.faults) same in omega (arith, is)

pub unopened_grew : {O : Type 0} (link : O → LinkView) (disk : O → DiskView) (passes : Test) (kind : ℕ) (bytes : List ℕ) (a b : O) (status : Status) → NotOpened link disk passes kind bytes a status b → (link a).faults ≤ (link b).faults
unopened_grew link disk passes kind bytes a b ends.Done not = absurd not
unopened_grew link disk passes kind bytes a b (ends.Served n) not = absurd not
unopened_grew link disk passes kind bytes a b (ends.Founded name) not = absurd not
unopened_grew link disk passes kind bytes a b (ends.Proxied n paid) not = absurd not
unopened_grew link disk passes kind bytes a b (ends.Did line) not = absurd not
unopened_grew link disk passes kind bytes a b ends.BadWords not = absurd not
unopened_grew link disk passes kind bytes a b (ends.Stranger name id) not = absurd not
unopened_grew link disk passes kind bytes a b ends.NotJournal not = same_count (link a) (link b) not.1.link'
unopened_grew link disk passes kind bytes a b (ends.BadEntry place) not = same_count (link a) (link b) not.1.link'
unopened_grew link disk passes kind bytes a b (ends.BadChain place) not = same_count (link a) (link b) not.1.link'
unopened_grew link disk passes kind bytes a b (ends.UnlawfulEntry place) not = same_count (link a) (link b) not.1.link'
unopened_grew link disk passes kind bytes a b ends.DiskFault not = same_count (link a) (link b) not.link'
unopened_grew link disk passes kind bytes a b ends.NoMemory not = same_count (link a) (link b) not.link'
unopened_grew link disk passes kind bytes a b ends.LinkFault not = absurd not
unopened_grew link disk passes kind bytes a b (ends.Refused f) not = same_count (link a) (link b) not.2.link'

links_grew : {O : Type 0} (link : O → LinkView) (disk : O → DiskView) (kind links : ℕ) (bytes : List ℕ) (a b : O) (status : Status) → Calm link disk a b → ServeCauses link disk links a status b → ServesLinksOf link disk kind links bytes a status b
    → (link a).faults ≤ (link b).faults
links_grew link disk kind links bytes a b ends.Done calm causes served = absurd served
links_grew link disk kind links bytes a b (ends.Served n) calm causes served = causes.1.0
links_grew link disk kind links bytes a b (ends.Founded name) calm causes served = absurd served
links_grew link disk kind links bytes a b (ends.Proxied n paid) calm causes served = absurd served
links_grew link disk kind links bytes a b (ends.Did line) calm causes served = absurd served
links_grew link disk kind links bytes a b ends.BadWords calm causes served = absurd served
links_grew link disk kind links bytes a b (ends.Stranger name id) calm causes served = absurd served
links_grew link disk kind links bytes a b ends.NotJournal calm causes served = absurd served
links_grew link disk kind links bytes a b (ends.BadEntry place) calm causes served = absurd served
links_grew link disk kind links bytes a b (ends.BadChain place) calm causes served = absurd served
links_grew link disk kind links bytes a b (ends.UnlawfulEntry place) calm causes served = absurd served
links_grew link disk kind links bytes a b ends.DiskFault calm causes served = absurd (calm.disk' causes)
links_grew link disk kind links bytes a b ends.NoMemory calm causes served = same_count (link a) (link b) served.link'
links_grew link disk kind links bytes a b ends.LinkFault calm causes served = absurd (calm.link' causes.1.0)
links_grew link disk kind links bytes a b (ends.Refused f) calm causes served = absurd served

pub served_grew : {O : Type 0} (link : O → LinkView) (disk : O → DiskView) (passes : Test) (kind links : ℕ) (bytes : List ℕ) (a b : O) (status : Status) → Calm link disk a b → ServeCauses link disk links a status b → ServesBook link disk passes kind links bytes a status b
    → (link a).faults ≤ (link b).faults
served_grew link disk passes kind links bytes a b status calm causes (inl not) = unopened_grew link disk passes kind bytes a b status not
served_grew link disk passes kind links bytes a b status calm causes (inr served) = links_grew link disk kind links bytes a b status calm causes served

pub operated_grew : {O : Type 0} (link : O → LinkView) (disk : O → DiskView) (passes : Test) (kind : ℕ) (operation : OperationView) (bytes : List ℕ) (a b : O) (status : Status)
    → Calm link disk a b → OperateCauses link disk operation a status b → OperatesBook link disk passes kind operation bytes a status b
    → (link a).faults ≤ (link b).faults
operated_grew link disk passes kind operation bytes a b status calm causes (inl not) = unopened_grew link disk passes kind bytes a b status not
operated_grew link disk passes kind operation bytes a b status calm causes (inr (inr kept)) =
    let taken : kept.taken.faults ≡ (link a).faults = taken_counts operation.input (link a) kept.taken kept.input kept.takes in
    let is : (link b).faults ≡ kept.taken.faults = ap (λ (u : LinkView). u.faults) kept.rest in
    omega (arith, taken, is)
operated_grew link disk passes kind operation bytes a b status calm causes (inr (inl unread)) = go unread.lost
  where
    go : ((status ≡ ends.LinkFault) × LosesInput operation.input (link a) (link b)) ⊎ ((status ≡ ends.NoMemory) × (link b ≡ link a)) → (link a).faults ≤ (link b).faults
    go (inl (is, lost)) = absurd (calm.link' (subst (λ (s : Status). OperateCauses link disk operation a s b) is causes).1.0)
    go (inr (is, same)) = same_count (link a) (link b) same

-- ---- how it ends

-- it was opened, unless memory was refused
pub only_memory : {O : Type 0} (link : O → LinkView) (disk : O → DiskView) (passes : Test) (kind : ℕ) (Own : Status → O → O → Type 0) (h : History) (bytes : List ℕ) (a b : O) (status : Status) → Encodes h bytes → IsLawful full h → AllPass passes h
    → site_kind h ≡ Some kind → Calm link disk a b → BookCauses link disk Own a status b → NotOpened link disk passes kind bytes a status b → number_of status ≡ 5
only_memory link disk passes kind Own h bytes a b ends.Done st lawful pass of_kind calm causes not = absurd not
only_memory link disk passes kind Own h bytes a b (ends.Served n) st lawful pass of_kind calm causes not = absurd not
only_memory link disk passes kind Own h bytes a b (ends.Founded name) st lawful pass of_kind calm causes not = absurd not
only_memory link disk passes kind Own h bytes a b (ends.Proxied n paid) st lawful pass of_kind calm causes not = absurd not
only_memory link disk passes kind Own h bytes a b (ends.Did line) st lawful pass of_kind calm causes not = absurd not
only_memory link disk passes kind Own h bytes a b ends.BadWords st lawful pass of_kind calm causes not = absurd not
only_memory link disk passes kind Own h bytes a b (ends.Stranger name id) st lawful pass of_kind calm causes not = absurd not
only_memory link disk passes kind Own h bytes a b ends.NotJournal st lawful pass of_kind calm causes not = absurd (not.0 (begins_with_header h bytes st))
only_memory link disk passes kind Own h bytes a b (ends.BadEntry place) st lawful pass of_kind calm causes not = absurd (not_spoiled (MayEnter passes full) (Only kind) h bytes place st not.0)
only_memory link disk passes kind Own h bytes a b (ends.BadChain place) st lawful pass of_kind calm causes not =
    absurd (not_unchained (MayEnter passes full) (Only kind) h bytes place not.0.0 not.0.1 st not.0.2)
only_memory link disk passes kind Own h bytes a b (ends.UnlawfulEntry place) st lawful pass of_kind calm causes not = absurd (not_unlawful passes kind h bytes place st lawful pass not.0)
only_memory link disk passes kind Own h bytes a b ends.DiskFault st lawful pass of_kind calm causes not = absurd (calm.disk' causes)
only_memory link disk passes kind Own h bytes a b ends.NoMemory st lawful pass of_kind calm causes not = refl
only_memory link disk passes kind Own h bytes a b ends.LinkFault st lawful pass of_kind calm causes not = absurd not
only_memory link disk passes kind Own h bytes a b (ends.Refused f) st lawful pass of_kind calm causes not = absurd (not_of_other kind h bytes st of_kind not.1)

pub init_well : {O : Type 0} (link : O → LinkView) (disk : O → DiskView) (a b : O) (status : Status) → Calm link disk a b → FoundCauses (disk a) status (disk b) → (number_of status ≡ 0) ⊎ ((number_of status ≡ 5) ⊎ (number_of status ≡ 7))
init_well link disk a b (ends.Founded name) calm causes = inl refl
init_well link disk a b ends.NoMemory calm causes = inr (inl refl)
init_well link disk a b (ends.Refused f) calm causes = inr (inr refl)
init_well link disk a b ends.DiskFault calm causes = absurd (calm.disk' causes)
init_well link disk a b ends.Done calm causes = absurd causes
init_well link disk a b (ends.Served n) calm causes = absurd causes
init_well link disk a b (ends.Proxied n paid) calm causes = absurd causes
init_well link disk a b (ends.Did line) calm causes = absurd causes
init_well link disk a b ends.LinkFault calm causes = absurd causes
init_well link disk a b ends.BadWords calm causes = absurd causes
init_well link disk a b (ends.Stranger name id) calm causes = absurd causes
init_well link disk a b ends.NotJournal calm causes = absurd causes
init_well link disk a b (ends.BadEntry place) calm causes = absurd causes
init_well link disk a b (ends.BadChain place) calm causes = absurd causes
init_well link disk a b (ends.UnlawfulEntry place) calm causes = absurd causes

links_well : {O : Type 0} (link : O → LinkView) (disk : O → DiskView) (kind links : ℕ) (bytes : List ℕ) (a b : O) (status : Status) → Calm link disk a b → ServeCauses link disk links a status b → ServesLinksOf link disk kind links bytes a status b
    → (number_of status ≡ 0) ⊎ (number_of status ≡ 5)
links_well link disk kind links bytes a b ends.Done calm causes served = inl refl
links_well link disk kind links bytes a b (ends.Served n) calm causes served = inl refl
links_well link disk kind links bytes a b (ends.Founded name) calm causes served = inl refl
links_well link disk kind links bytes a b (ends.Proxied n paid) calm causes served = inl refl
links_well link disk kind links bytes a b (ends.Did line) calm causes served = inl refl
links_well link disk kind links bytes a b ends.NoMemory calm causes served = inr refl
links_well link disk kind links bytes a b ends.DiskFault calm causes served = absurd (calm.disk' causes)
links_well link disk kind links bytes a b ends.LinkFault calm causes served = absurd (calm.link' causes.1.0)
links_well link disk kind links bytes a b ends.BadWords calm causes served = absurd served
links_well link disk kind links bytes a b (ends.Stranger name id) calm causes served = absurd served
links_well link disk kind links bytes a b ends.NotJournal calm causes served = absurd served
links_well link disk kind links bytes a b (ends.BadEntry place) calm causes served = absurd served
links_well link disk kind links bytes a b (ends.BadChain place) calm causes served = absurd served
links_well link disk kind links bytes a b (ends.UnlawfulEntry place) calm causes served = absurd served
links_well link disk kind links bytes a b (ends.Refused f) calm causes served = absurd served

pub served_well : {O : Type 0} (link : O → LinkView) (disk : O → DiskView) (passes : Test) (kind links : ℕ) (a b : O) (status : Status) (has : HasSite kind (disk a)) → AllPass passes has.history → Calm link disk a b → ServeCauses link disk links a status b → ServesBook link disk passes kind links has.bytes a status b
    → (number_of status ≡ 0) ⊎ (number_of status ≡ 5)
served_well link disk passes kind links a b status has pass calm causes (inl not) = inr (only_memory link disk passes kind (ServeEnds link disk links) has.history has.bytes a b status has.stands has.lawful pass has.of_kind calm causes not)
served_well link disk passes kind links a b status has pass calm causes (inr served) = links_well link disk kind links has.bytes a b status calm causes served

did_well : {O : Type 0} (link : O → LinkView) (disk : O → DiskView) (operation : OperationView) (input : List ℕ) (h : History) (task : Task) (a b : O) (status : Status) → Calm link disk a b → OperateCauses link disk operation a status b → DidBy (disk b) operation input h task status
    → (number_of status ≡ 0) ⊎ ((number_of status ≡ 5) ⊎ (number_of status ≡ 7))
did_well link disk operation input h task a b ends.Done calm causes did = inl refl
did_well link disk operation input h task a b (ends.Served n) calm causes did = inl refl
did_well link disk operation input h task a b (ends.Founded name) calm causes did = inl refl
did_well link disk operation input h task a b (ends.Proxied n paid) calm causes did = inl refl
did_well link disk operation input h task a b (ends.Did line) calm causes did = inl refl
did_well link disk operation input h task a b ends.NoMemory calm causes did = inr (inl refl)
did_well link disk operation input h task a b (ends.Refused f) calm causes did = inr (inr refl)
did_well link disk operation input h task a b ends.DiskFault calm causes did = absurd (calm.disk' causes)
did_well link disk operation input h task a b ends.LinkFault calm causes did = absurd did
did_well link disk operation input h task a b ends.BadWords calm causes did = absurd did
did_well link disk operation input h task a b (ends.Stranger name id) calm causes did = absurd did
did_well link disk operation input h task a b ends.NotJournal calm causes did = absurd did
did_well link disk operation input h task a b (ends.BadEntry place) calm causes did = absurd did
did_well link disk operation input h task a b (ends.BadChain place) calm causes did = absurd did
did_well link disk operation input h task a b (ends.UnlawfulEntry place) calm causes did = absurd did

pub operated_well : {O : Type 0} (link : O → LinkView) (disk : O → DiskView) (passes : Test) (kind : ℕ) (operation : OperationView) (a b : O) (status : Status) (has : HasSite kind (disk a)) → AllPass passes has.history → Calm link disk a b → OperateCauses link disk operation a status b
    → OperatesBook link disk passes kind operation has.bytes a status b → (number_of status ≡ 0) ⊎ ((number_of status ≡ 5) ⊎ (number_of status ≡ 7))
operated_well link disk passes kind operation a b status has pass calm causes (inl not) = inr (inl (only_memory link disk passes kind (OperateEnds link operation) has.history has.bytes a b status has.stands has.lawful pass has.of_kind calm causes not))
operated_well link disk passes kind operation a b status has pass calm causes (inr (inr kept)) = did_well link disk operation kept.input kept.history kept.task a b status calm causes kept.did
operated_well link disk passes kind operation a b status has pass calm causes (inr (inl unread)) = go unread.lost
  where
    go : ((status ≡ ends.LinkFault) × LosesInput operation.input (link a) (link b)) ⊎ ((status ≡ ends.NoMemory) × (link b ≡ link a)) → (number_of status ≡ 0) ⊎ ((number_of status ≡ 5) ⊎ (number_of status ≡ 7))
    go (inl (is, lost)) = absurd (calm.link' (subst (λ (s : Status). OperateCauses link disk operation a s b) is causes).1.0)
    go (inr (is, same)) = inr (inl (ap number_of is))
