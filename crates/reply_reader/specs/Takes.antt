-- What a reader of replies does on a link.
use Rattle.std.specs.Prelude.{◌≡◌, ◌⊎◌, ℕ, ◌≤◌, List, [], ◌++◌, length, Result, Ok, Err}
use Rattle.mc_outside.specs.LinkView.{LinkView, after_recv, after_eof, Failed}
use Rattle.reply_reader.specs.declared.reply.ReplyFault.{ReplyFault}
use Rattle.reply_reader.specs.declared.reply.ReplyFault.TheVariants.{BadReply, NoReply, Fault}
use Rattle.reply_reader.specs.declared.reader.TheConstants.{REPLY_ROOM}
use Rattle.millicent_http.specs.Received.{Received}
use Rattle.reply_reader.specs.Replies.{IsReply, IsBad, IsShort}

-- the answer by the bytes that came, from the link that heard them to the link after
abbrev pub EndsAs : List ℕ → Result Received ReplyFault → LinkView → LinkView → Type 0
EndsAs got (Ok r) before after = IsReply got r × (after ≡ before)
EndsAs got (Err BadReply) before after = IsBad got × (after ≡ before)
EndsAs got (Err NoReply) before after = IsShort got × (after ≡ after_eof before)
EndsAs got (Err Fault) before after = IsShort got × Failed before after

-- No byte came that was not waited for: before the last piece came, the bytes were less than a reply.
abbrev pub WaitedFor : List ℕ → Type 0
WaitedFor got = (got ≡ []) ⊎ ((front : List ℕ) × (last : List ℕ) × (got ≡ front ++ last) × IsShort front)

-- Some bytes came on the standing link, at most as many as the buffer holds, and gave this answer.
pub record TookReply (before : LinkView) (answer : Result Received ReplyFault) (after : LinkView) : Type 0 where
  pub got : List ℕ
  pub few : length got ≤ REPLY_ROOM
  pub waited : WaitedFor got
  pub ends : EndsAs got answer (after_recv got before) after
