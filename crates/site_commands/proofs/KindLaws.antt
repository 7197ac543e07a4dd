-- How a command ends over the book of a site of another kind.
use Rattle.std.proofs.Common.{inl, inr, ℕ, List}
use Rattle.mc_outside.specs.DiskView.{DiskView}
use Rattle.mc_outside.specs.LinkView.{LinkView}
use Rattle.scrip_journal.specs.Causes.{Only}
use Rattle.scrip_journal.proofs.Beginnings.{other_begins, other_is_whole, other_is_chained}
use Rattle.house_state.specs.Learning.{Test, MayEnter}
use Rattle.house_opening.specs.Opening.{IsOfOther}
use Rattle.operator_command.specs.Operations.{OperationView, full}
use Rattle.command_status.specs.declared.status.Status.{Status}
use Rattle.command_status.specs.declared.status.Status.TheVariants as ends
use Rattle.site_commands.specs.Endings.{TellsOtherKind}
use Rattle.site_commands.specs.Serving.{NotOpened, ServesLinksOf, ServesBook}
use Rattle.site_commands.specs.Operator.{OperatesBook}
use Rattle.site_commands.proofs.OpenLaws.{not_of_other}

unopened : {O : Type 0} (link : O → LinkView) (disk : O → DiskView) (passes : Test) (kind : ℕ) (bytes : List ℕ) (a b : O) (status : Status) → IsOfOther kind bytes → NotOpened link disk passes kind bytes a status b → TellsOtherKind status
unopened link disk passes kind bytes a b ends.DiskFault other not = tt
unopened link disk passes kind bytes a b ends.NoMemory other not = tt
unopened link disk passes kind bytes a b (ends.Refused f) other not = not.0
unopened link disk passes kind bytes a b ends.NotJournal other not = absurd (not.0 (other_begins (Only kind) bytes other))
unopened link disk passes kind bytes a b (ends.BadEntry place) other not = absurd (other_is_whole (Only kind) (MayEnter passes full) bytes place other not.0)
unopened link disk passes kind bytes a b (ends.BadChain place) other not = absurd (other_is_chained (Only kind) (MayEnter passes full) bytes place not.0.0 not.0.1 other not.0.2)
unopened link disk passes kind bytes a b (ends.UnlawfulEntry place) other not = absurd (not.0.0 other)
unopened link disk passes kind bytes a b ends.Done other not = absurd not
unopened link disk passes kind bytes a b (ends.Served n) other not = absurd not
unopened link disk passes kind bytes a b (ends.Founded name) other not = absurd not
unopened link disk passes kind bytes a b (ends.Proxied n paid) other not = absurd not
unopened link disk passes kind bytes a b (ends.Did line) other not = absurd not
unopened link disk passes kind bytes a b ends.BadWords other not = absurd not
unopened link disk passes kind bytes a b (ends.Stranger name id) other not = absurd not
unopened link disk passes kind bytes a b ends.LinkFault other not = absurd not

links_served : {O : Type 0} (link : O → LinkView) (disk : O → DiskView) (kind links : ℕ) (bytes : List ℕ) (a b : O) (status : Status) → IsOfOther kind bytes → ServesLinksOf link disk kind links bytes a status b → TellsOtherKind status
links_served link disk kind links bytes a b ends.DiskFault other served = tt
links_served link disk kind links bytes a b ends.NoMemory other served = tt
links_served link disk kind links bytes a b (ends.Served n) other served =
    let encoded = served.2.encoded in
    absurd (not_of_other kind served.0.history bytes encoded.stands encoded.of_kind other)
links_served link disk kind links bytes a b ends.LinkFault other served =
    let encoded = served.2.encoded in
    absurd (not_of_other kind served.0.history bytes encoded.stands encoded.of_kind other)
links_served link disk kind links bytes a b (ends.Refused f) other served = absurd served
links_served link disk kind links bytes a b ends.NotJournal other served = absurd served
links_served link disk kind links bytes a b (ends.BadEntry place) other served = absurd served
links_served link disk kind links bytes a b (ends.BadChain place) other served = absurd served
links_served link disk kind links bytes a b (ends.UnlawfulEntry place) other served = absurd served
links_served link disk kind links bytes a b ends.Done other served = absurd served
links_served link disk kind links bytes a b (ends.Founded name) other served = absurd served
links_served link disk kind links bytes a b (ends.Proxied n paid) other served = absurd served
links_served link disk kind links bytes a b (ends.Did line) other served = absurd served
links_served link disk kind links bytes a b ends.BadWords other served = absurd served
links_served link disk kind links bytes a b (ends.Stranger name id) other served = absurd served

pub served_other : {O : Type 0} (link : O → LinkView) (disk : O → DiskView) (passes : Test) (kind links : ℕ) (bytes : List ℕ) (a b : O) (status : Status) → IsOfOther kind bytes → ServesBook link disk passes kind links bytes a status b → TellsOtherKind status
served_other link disk passes kind links bytes a b status other (inl not) = unopened link disk passes kind bytes a b status other not
served_other link disk passes kind links bytes a b status other (inr served) = links_served link disk kind links bytes a b status other served

pub operated_other : {O : Type 0} (link : O → LinkView) (disk : O → DiskView) (passes : Test) (kind : ℕ) (operation : OperationView) (bytes : List ℕ) (a b : O) (status : Status) → IsOfOther kind bytes → OperatesBook link disk passes kind operation bytes a status b
    → TellsOtherKind status
operated_other link disk passes kind operation bytes a b status other (inl not) = unopened link disk passes kind bytes a b status other not
operated_other link disk passes kind operation bytes a b status other (inr (inl unread)) = absurd (not_of_other kind unread.history bytes unread.stands unread.of_kind other)
operated_other link disk passes kind operation bytes a b status other (inr (inr did)) = absurd (not_of_other kind did.history bytes did.stands did.of_kind other)
