-- Replies that were read, without where they lie in memory.
use Rattle.std.specs.Prelude.{ℕ, List, Result, Ok, Err}
use Rattle.mc_requests.specs.Requests.{seen}
use Rattle.reply_reader.specs.declared.reply.ReplyRef.{ReplyRef}
use Rattle.reply_reader.specs.declared.reply.ReplyRead.{ReplyRead}
use Rattle.reply_reader.specs.declared.reply.ReplyRead.TheVariants.{Whole, Bad, Short}
use Rattle.reply_reader.specs.declared.reply.ReplyFault.{ReplyFault}
use Rattle.millicent_http.specs.Received.{Received}
use Rattle.reply_reader.specs.Replies.{IsReply, IsBad, Needs}

abbrev pub received_of : ReplyRef → Received
received_of r = record { status = r.status; refusal = seen r.refusal; price = r.price.now; change = r.change.now; sign = r.sign.now; contents = r.contents.now }

-- what the bytes are
abbrev pub ReadsAs : List ℕ → ReplyRead → Type 0
ReadsAs bytes (Whole r) = IsReply bytes (received_of r)
ReadsAs bytes Bad = IsBad bytes
ReadsAs bytes (Short needed) = Needs bytes needed

abbrev pub taken_of : Result ReplyRef ReplyFault → Result Received ReplyFault
taken_of (Ok r) = Ok (received_of r)
taken_of (Err fault) = Err fault
