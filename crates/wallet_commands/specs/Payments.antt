-- What is learned of a request on one link.
use Rattle.std.specs.Prelude.{◌≡◌, ◌⊎◌, ℕ, ◌<◌, List, length, take, Some, None, Result, Ok, Err}
use Rattle.mc_outside.specs.LinkView.{LinkView, next_taken, none_left, after_send, Failed}
use Rattle.mc_requests.specs.declared.refusal.Refusal.{Refusal}
use Rattle.mc_requests.specs.declared.refusal.Refusal.TheVariants as refusals
use Rattle.millicent_http.specs.Courses.{NoLink}
use Rattle.reply_reader.specs.declared.reply.ReplyFault.{ReplyFault}
use Rattle.reply_reader.specs.declared.reply.ReplyFault.TheVariants as replies
use Rattle.millicent_http.specs.Received.{Received}
use Rattle.reply_reader.specs.Takes.{TookReply}
use Rattle.wallet_model.specs.Requests.{Pending}
use Rattle.wallet_model.specs.Asks.{request_bytes}
use Rattle.wallet_model.specs.Settling.{check_of}
use Rattle.wallet_commands.specs.declared.sending.SendFault.{SendFault}
use Rattle.wallet_commands.specs.declared.sending.SendFault.TheVariants as faults

-- ---- sending

-- sending failed, when a proper first part of the bytes was sent on the next link
pub record SentPart (bytes : List ℕ) (before after : LinkView) : Type 0 where
  pub n : ℕ
  pub part : n < length bytes
  pub fault : Failed (after_send (take n bytes) (next_taken before)) after

-- why the bytes were not sent whole on the next link: none came, or it could not be taken, or sending failed
abbrev pub NotSent : SendFault → List ℕ → LinkView → LinkView → Type 0
NotSent faults.NoLink bytes before after = after ≡ none_left before
NotSent faults.Link bytes before after = NoLink before after ⊎ SentPart bytes before after

-- ---- learning

-- a reply that settles the request, a refusal with which it stays kept, or a fault of the link
pub data Learned : Type 0 where
  Settles : Received → Learned
  Stays : Refusal → Learned
  Breaks : Learned

-- the request was sent whole on the next link, and then this came of reading its reply
abbrev pub Read : Pending → Result Received ReplyFault → LinkView → LinkView → Type 0
Read p answer before after = TookReply (after_send (request_bytes p) (next_taken before)) answer after

-- why a request stays kept: 63 NoLink, no link came; 64 NoReply, it ended before the reply did; 65 BadReply, what came
-- is no reply; or 65 or 66 Unproved, by the check of the reply
abbrev pub StaysKept : Pending → Refusal → LinkView → LinkView → Type 0
StaysKept p f before after =
    ((f ≡ refusals.NoLink) × (after ≡ none_left before))
    ⊎ (((f ≡ refusals.NoReply) × Read p (Err replies.NoReply) before after)
    ⊎ (((f ≡ refusals.BadReply) × Read p (Err replies.BadReply) before after)
    ⊎ ((r : Received) × Read p (Ok r) before after × (check_of p r ≡ Some f))))

-- the link could not be taken, or failed while the request was sent or its reply was read
abbrev pub LinkBreaks : Pending → LinkView → LinkView → Type 0
LinkBreaks p before after = NoLink before after ⊎ (SentPart (request_bytes p) before after ⊎ Read p (Err replies.Fault) before after)

abbrev pub Learns : Pending → Learned → LinkView → LinkView → Type 0
Learns p (Settles r) before after = Read p (Ok r) before after × (check_of p r ≡ None)
Learns p (Stays f) before after = StaysKept p f before after
Learns p Breaks before after = LinkBreaks p before after
