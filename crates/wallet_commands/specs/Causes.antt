-- Why a wallet's commands end as they do, whatever the disk and the links tell.
use Rattle.std.specs.Prelude.{◌≡◌, ◌⊎◌, List, ℕ, Ok, Err}
use Rattle.mc_outside.specs.Bytes.{Rose}
use Rattle.mc_outside.specs.DiskView.{DiskView}
use Rattle.mc_outside.specs.LinkView.{LinkView, next_taken, none_left, after_send}
use Rattle.mc_requests.specs.declared.refusal.Refusal.{Refusal}
use Rattle.mc_requests.specs.declared.refusal.Refusal.TheVariants as refusals
use Rattle.millicent_http.specs.Courses.{with_readings}
use Rattle.millicent_http.specs.Inputs.{IsInput}
use Rattle.command_status.specs.declared.status.Status.{Status}
use Rattle.command_status.specs.declared.status.Status.TheVariants as ends
use Rattle.reply_reader.specs.declared.reply.ReplyFault.TheVariants as replies
use Rattle.millicent_http.specs.Received.{Received}
use Rattle.reply_reader.specs.Takes.{TookReply}
use Rattle.wallet_model.specs.Settling.{refusal_number}
use Rattle.wallet_commands.specs.declared.taking.TheConstants.{MOST_LINES}

-- no call failed
pub record NoneFailed {O : Type 0} (link : O → LinkView) (disk : O → DiskView) (a b : O) : Type 0 where
  pub disk' : (disk b).faults ≡ (disk a).faults
  pub link' : (link b).faults ≡ (link a).faults

-- a call of the disk failed, and none of the links
pub record DiskFailed {O : Type 0} (link : O → LinkView) (disk : O → DiskView) (a b : O) : Type 0 where
  pub disk' : Rose (disk a).faults (disk b).faults
  pub link' : (link b).faults ≡ (link a).faults

-- a call of the links failed, and none of the disk
pub record LinkFailed {O : Type 0} (link : O → LinkView) (disk : O → DiskView) (a b : O) : Type 0 where
  pub disk' : (disk b).faults ≡ (disk a).faults
  pub link' : Rose (link a).faults (link b).faults

-- ---- what became of the links where a refusal is told

-- by a reply that was read: the settlement does not fit the journal (33), or it is of a refusal of the site (68), whose
-- number is told, and the reply is no 200
abbrev pub SettleRefused : Received → Refusal → Type 0
SettleRefused r (refusals.JournalFull size payload) = Unit {0}
SettleRefused r (refusals.SiteRefused number) = (r.status ≡ 200 → ⊥) × (number ≡ refusal_number r.refusal)
SettleRefused r _ = ⊥

-- or the check refused it (65, 66), and then the links are as they were
abbrev pub CheckRefused : Received → Refusal → LinkView → LinkView → Type 0
CheckRefused r refusals.BadReply before after = after ≡ before
CheckRefused r refusals.Unproved before after = after ≡ before
CheckRefused r f before after = SettleRefused r f

-- a reply was read on the link that stands, and then it was refused so
abbrev pub ReplyRefused : Refusal → LinkView → LinkView → Type 0
ReplyRefused f before after = (r : Received) × (read : LinkView) × TookReply before (Ok r) read × CheckRefused r f read after

-- on the link that stands: it ended before a reply did (64), what came is no reply (65), or a reply was refused
abbrev pub ReadRefused : Refusal → LinkView → LinkView → Type 0
ReadRefused refusals.NoReply before after = TookReply before (Err replies.NoReply) after
ReadRefused refusals.BadReply before after = TookReply before (Err replies.BadReply) after ⊎ ReplyRefused refusals.BadReply before after
ReadRefused f before after = ReplyRefused f before after

-- on the next link: none came (63); or a request was sent whole on it, and then what was read was refused; or none was
-- taken (67)
abbrev pub LinkRefused : Refusal → LinkView → LinkView → Type 0
LinkRefused refusals.NoLink before after = after ≡ none_left before
LinkRefused refusals.Nothing before after = after ≡ before
LinkRefused f before after = (request : List ℕ) × ReadRefused f (after_send request (next_taken before)) after

-- the clock alone was read
abbrev pub OnlyClocked : LinkView → LinkView → Type 0
OnlyClocked before after = after ≡ with_readings after.readings before

-- an input was read, and then the clock
abbrev pub InputTaken : LinkView → LinkView → Type 0
InputTaken before after = (input : List ℕ) × (taken : LinkView) × IsInput MOST_LINES before input taken × OnlyClocked taken after

-- the clock was read, and then it was refused on the next link
abbrev pub NextRefused : Refusal → LinkView → LinkView → Type 0
NextRefused f before after = (clocked : LinkView) × OnlyClocked before clocked × LinkRefused f clocked after

-- Of a command over a book: the book is of another kind (52), and the links are as they were; of an input (53, 61); there
-- are no funds (62), nothing is kept (67) or nothing is due (80), and no link was taken; or it was refused on the next
-- link. The journal is full (33) for pieces of an input, for the request that was to be sent, or for what was read on the
-- next link.
abbrev pub RefusedBy : Refusal → LinkView → LinkView → Type 0
RefusedBy refusals.WrongKind before after = after ≡ before
RefusedBy (refusals.BadInput line) before after = InputTaken before after
RefusedBy (refusals.TwiceHeld id) before after = InputTaken before after
RefusedBy (refusals.NoFunds greatest) before after = OnlyClocked before after
RefusedBy refusals.Nothing before after = OnlyClocked before after
RefusedBy refusals.NothingDue before after = OnlyClocked before after
RefusedBy (refusals.JournalFull size payload) before after = InputTaken before after ⊎ (OnlyClocked before after ⊎ NextRefused (refusals.JournalFull size payload) before after)
RefusedBy f before after = NextRefused f before after

-- ---- why a command ends so

-- Once the book was opened: the disk or a link is told to have failed exactly where it did, and never both; and a refusal
-- by what became of the links. A command ends in no other way than these.
abbrev pub CausesBy : {O : Type 0} → (Refusal → LinkView → LinkView → Type 0) → (O → LinkView) → (O → DiskView) → O → Status → O → Type 0
CausesBy Why link disk a ends.DiskFault b = DiskFailed link disk a b
CausesBy Why link disk a ends.LinkFault b = LinkFailed link disk a b
CausesBy Why link disk a ends.Done b = NoneFailed link disk a b
CausesBy Why link disk a (ends.Did line) b = NoneFailed link disk a b
CausesBy Why link disk a ends.NoMemory b = NoneFailed link disk a b
CausesBy Why link disk a (ends.Refused f) b = NoneFailed link disk a b × Why f (link a) (link b)
CausesBy Why link disk a _ b = ⊥

-- A command over a book ends so too, or the book can't be read, and then no call failed and no link was taken.
abbrev pub BookCausesBy : {O : Type 0} → (Refusal → LinkView → LinkView → Type 0) → (O → LinkView) → (O → DiskView) → O → Status → O → Type 0
BookCausesBy Why link disk a ends.NotJournal b = NoneFailed link disk a b × (link b ≡ link a)
BookCausesBy Why link disk a (ends.BadEntry place) b = NoneFailed link disk a b × (link b ≡ link a)
BookCausesBy Why link disk a (ends.BadChain place) b = NoneFailed link disk a b × (link b ≡ link a)
BookCausesBy Why link disk a (ends.UnlawfulEntry place) b = NoneFailed link disk a b × (link b ≡ link a)
BookCausesBy Why link disk a status b = CausesBy Why link disk a status b

abbrev pub WalletCauses : {O : Type 0} → (O → LinkView) → (O → DiskView) → O → Status → O → Type 0
WalletCauses link disk a status b = BookCausesBy RefusedBy link disk a status b

-- ---- of telling the chain

-- the book is of another kind (52), and the links are as they were; or the Switch does not fit the journal (33)
abbrev pub SwitchRefused : Refusal → LinkView → LinkView → Type 0
SwitchRefused refusals.WrongKind before after = after ≡ before
SwitchRefused (refusals.JournalFull size payload) before after = OnlyClocked before after
SwitchRefused f before after = ⊥

-- However it ends no link is taken, and so none fails; where it is done there is a line.
abbrev pub SwitchCauses : {O : Type 0} → (O → LinkView) → (O → DiskView) → O → Status → O → Type 0
SwitchCauses link disk a ends.LinkFault b = ⊥
SwitchCauses link disk a ends.Done b = ⊥
SwitchCauses link disk a status b = BookCausesBy SwitchRefused link disk a status b × OnlyClocked (link a) (link b)
