-- What becomes of a kept request by the reply to it, on the link that stands.
use Rattle.std.specs.Prelude.{◌≡◌, ◌⊎◌, ℕ, List, ◌++◌, Option, Some, None, IsSome, Result, Ok, Err, option_and_then, slice_get}
use Rattle.mc_outside.specs.DiskView.{DiskView, Ran}
use Rattle.mc_outside.specs.LinkView.{LinkView}
use Rattle.mc_requests.specs.declared.refusal.Refusal.{Refusal}
use Rattle.mc_requests.specs.declared.refusal.Refusal.TheVariants as refusals
use Rattle.ledger_model.specs.Histories.{History}
use Rattle.scrip_journal.specs.Layout.{Encodes}
use Rattle.mc_records.specs.Entry.{Entry}
use Rattle.reply_reader.specs.declared.reply.ReplyFault.{ReplyFault}
use Rattle.reply_reader.specs.declared.reply.ReplyFault.TheVariants as replies
use Rattle.millicent_http.specs.Received.{Received}
use Rattle.reply_reader.specs.Takes.{TookReply}
use Rattle.command_status.specs.declared.status.Status.{Status}
use Rattle.command_status.specs.declared.status.Status.TheVariants as ends
use Rattle.wallet_model.specs.Requests.{Pending}
use Rattle.wallet_model.specs.Settling.{check_of}
use Rattle.wallet_core.specs.declared.settling.Settlement.{Settlement}
use Rattle.wallet_core.specs.declared.settling.Settlement.TheVariants as settled
use Rattle.scrip_form.specs.Scrip.{Scrip}
use Rattle.ledger_model.specs.Pieces.{piece_of}
use Rattle.wallet_book.specs.declared.holding.Holding.{Holding}
use Rattle.wallet_book.specs.Holdings.{text_of}
use Rattle.wallet_core.specs.declared.outcome.WalletOut.{WalletOut}
use Rattle.wallet_core.specs.declared.outcome.WalletOut.TheVariants as outs
use Rattle.wallet_commands.specs.declared.saying.Saying.{Saying}
use Rattle.wallet_commands.specs.declared.saying.Saying.TheVariants as sayings
use Rattle.wallet_commands.specs.Lines.{got_line, renewed_line}
use Rattle.wallet_commands.specs.Payments.{Learned, Settles, Stays, Breaks}
use Rattle.wallet_commands.specs.Paying.{EndsAs, settled_by}

-- the piece that came first behind so many
abbrev pub came_behind : ℕ → List Holding → Option Scrip
came_behind count xs = option_and_then (λ x. piece_of (text_of x)) (slice_get xs count)

-- how a command ends whose request was settled so
abbrev pub settlement_status : Settlement → Status
settlement_status (settled.Paid price) = ends.Done
settlement_status (settled.Got piece) = ends.Did (got_line piece)
settlement_status (settled.Refused number) = ends.Refused (refusals.SiteRefused number)

-- and by what it says, where this change came
abbrev pub told_status : Saying → Option Scrip → Settlement → Status
told_status sayings.Contents change s = settlement_status s
told_status (sayings.Renewal vendor) change (settled.Refused number) = ends.Refused (refusals.SiteRefused number)
told_status (sayings.Renewal vendor) change s = ends.Did (renewed_line vendor change)

-- and by the outcome of settling it, before which so many pieces stood
abbrev pub settled_status : {D : Type 0} → Saying → ℕ → WalletOut D Settlement → Status
settled_status k count (outs.Done x s) = told_status k (came_behind count x.book.holdings) s
settled_status k count (outs.Refused x f) = ends.Refused f
settled_status k count (outs.NoMemory x) = ends.NoMemory
settled_status k count (outs.Halted d) = ends.DiskFault

-- what is learned of a reply by its check
abbrev pub learned_by : Received → Option Refusal → Learned
learned_by r None = Settles r
learned_by r (Some f) = Stays f

-- and of what came of reading it
abbrev pub learned_of : Pending → Result Received ReplyFault → Learned
learned_of p (Ok r) = learned_by r (check_of p r)
learned_of p (Err replies.NoReply) = Stays refusals.NoReply
learned_of p (Err replies.BadReply) = Stays refusals.BadReply
learned_of p (Err replies.Fault) = Breaks

-- A crash pair from the sent request on: the image encodes the history, with the settlement or without it. Where what
-- is sent is told, nothing more was sent.
abbrev pub SettledPair : Type 0 → List ℕ → History → List Entry → List ℕ → List ℕ → Type 0
SettledPair tells aside h settled image sent = (Encodes h image ⊎ Encodes (h ++ settled) image) × (tells → sent ≡ aside)

-- The reply was checked, and settled the request of a number, or left it kept.
pub record EndsReply (k : Saying) {O : Type 0} (link : O → LinkView) (disk : O → DiskView) (h : History) (t n : ℕ) (p : Pending) (r : Received) (a : O) (status : Status) (b : O) : Type 0 where
  pub ends' : EndsAs k h t n p (learned_by r (check_of p r)) (link a) status (disk b) (link b)
  pub pairs : Ran (disk a) (disk b) (SettledPair (IsSome (link a).sessions) (disk a).aside h (settled_by h t n p (learned_by r (check_of p r)) status))

-- The reply was read on the link that stands, and settled the request, or left it kept.
pub record ReadsReply (k : Saying) {O : Type 0} (link : O → LinkView) (disk : O → DiskView) (h : History) (t n : ℕ) (p : Pending) (a : O) (status : Status) (b : O) : Type 0 where
  pub answer : Result Received ReplyFault
  pub middle : LinkView
  pub took : TookReply (link a) answer middle
  pub ends' : EndsAs k h t n p (learned_of p answer) middle status (disk b) (link b)
  pub pairs : Ran (disk a) (disk b) (SettledPair (IsSome (link a).sessions) (disk a).aside h (settled_by h t n p (learned_of p answer) status))
