-- How a head and its contents arrive in a buffer.
use Rattle.std.specs.Prelude.{◌≡◌, ◌⊎◌, ℕ, ◌<◌, ◌≤◌, List, length, take, slice_range, Result, Ok, Err}
use Rattle.mc_outside.specs.LinkView.{LinkView, after_recv, after_eof, Failed}
use Rattle.millicent_http.specs.HeadEnds.{line_ends, IsFirstEnd}
use Rattle.millicent_http.specs.Items.{max_head, EndsNoItem}
use Rattle.millicent_http.specs.declared.reader.TheConstants.{MAX_HEAD}
use Rattle.reply_reader.specs.declared.reply.ReplyFault.{ReplyFault}
use Rattle.reply_reader.specs.declared.reply.ReplyFault.TheVariants.{BadReply, NoReply, Fault}
use Rattle.reply_reader.specs.declared.arrival.Arrived.{Arrived}
use Rattle.reply_reader.specs.Replies.{HasLongHead}
use Rattle.reply_reader.specs.Takes.{WaitedFor}

-- what a `recv` that brought nothing says of the link
abbrev pub Stopped : ReplyFault → LinkView → LinkView → Type 0
Stopped BadReply before after = ⊥
Stopped NoReply before after = after ≡ after_eof before
Stopped Fault before after = Failed before after

-- the places of a head in its buffer
pub record IsInOrder (head : Arrived) (room : ℕ) : Type 0 where
  pub front : head.skip ≤ head.end
  pub short : head.end ≤ MAX_HEAD
  pub held : head.end ≤ head.held
  pub within : head.held ≤ room

-- the first empty line of these bytes ends here, behind so many bytes of line ends
pub record HasHead (got : List ℕ) (head : Arrived) : Type 0 where
  pub first : IsFirstEnd (take max_head got) head.end
  pub skip : head.skip ≡ line_ends (take max_head got)

-- so many bytes were held at the front of the buffer, and then the answer came
abbrev pub HeadEndsAs : ℕ → List ℕ → Result Arrived ReplyFault → LinkView → LinkView → Type 0
HeadEndsAs held got (Ok head) before after = (head.held ≡ held) × HasHead got head × (after ≡ before)
HeadEndsAs held got (Err BadReply) before after = HasLongHead got × (after ≡ before)
HeadEndsAs held got (Err NoReply) before after = EndsNoItem got × (after ≡ after_eof before)
HeadEndsAs held got (Err Fault) before after = EndsNoItem got × Failed before after

pub record HeadArrives (before : LinkView) (buf : List ℕ) (answer : Result Arrived ReplyFault) (after : LinkView) : Type 0 where
  pub held : ℕ
  pub within : held ≤ length buf
  pub waited : WaitedFor (take held buf)
  pub ends : HeadEndsAs held (take held buf) answer (after_recv (take held buf) before) after

-- so many bytes are held, of these that are wanted
abbrev pub ContentsEndAs : ℕ → ℕ → Result (Unit {0}) ReplyFault → LinkView → LinkView → Type 0
ContentsEndAs now whole (Ok _) before after = (whole ≤ now) × (after ≡ before)
ContentsEndAs now whole (Err fault) before after = (now < whole) × Stopped fault before after

-- Behind the held bytes came more, each piece while fewer were held than are wanted.
pub record ContentsArrive (held whole : ℕ) (before : LinkView) (old new : List ℕ) (answer : Result (Unit {0}) ReplyFault) (after : LinkView) : Type 0 where
  pub now : ℕ
  pub order : held ≤ now
  pub within : now ≤ length new
  pub front : take held new ≡ take held old
  pub waited : (now ≡ held) ⊎ ((last : ℕ) × (held ≤ last) × (last ≤ now) × (last < whole))
  pub ends : ContentsEndAs now whole answer (after_recv (slice_range new held now) before) after
