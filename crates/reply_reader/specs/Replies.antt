-- The reply at the front of the bytes of a link, over the whole list of the bytes.
use Rattle.std.specs.Prelude.{◌≡◌, ◌⊎◌, ℕ, ◌+◌, ◌<◌, ◌≤◌, List, length, take, slice_range}
use Rattle.millicent_http.specs.HeadEnds.{line_ends, HasNoEnd, IsFirstEnd}
use Rattle.millicent_http.specs.Items.{max_head, EndsNoItem}
use Rattle.millicent_http.specs.Received.{Received}
use Rattle.reply_reader.specs.Said.{HeadSaid, HeadSays, SaysNothing}

-- what a head says, with these contents
abbrev pub received_with : HeadSaid → List ℕ → Received
received_with x contents = record { status = x.status; refusal = x.refusal; price = x.price; change = x.change; sign = x.sign; contents = contents }

-- the text of the head that ends here, without the line ends before it
abbrev pub head_text : List ℕ → ℕ → List ℕ
head_text bytes end = slice_range (take max_head bytes) (line_ends (take max_head bytes)) end

-- a head ends here in the first 8,192 bytes, and says this
pub record Says (bytes : List ℕ) (end : ℕ) (x : HeadSaid) : Type 0 where
  pub first : IsFirstEnd (take max_head bytes) end
  pub says : HeadSays (head_text bytes end) x

-- The bytes begin with this reply. What comes behind its contents means nothing.
pub record IsReply (bytes : List ℕ) (r : Received) : Type 0 where
  pub end : ℕ
  pub x : HeadSaid
  pub says : Says bytes end x
  pub enough : end + x.length ≤ length bytes
  pub is : r ≡ received_with x (slice_range bytes end (end + x.length))

-- ---- no reply, whatever follows

-- the first empty line ends here, and the text up to it is no head of a reply
pub record HasBadHead (bytes : List ℕ) : Type 0 where
  pub end : ℕ
  pub first : IsFirstEnd (take max_head bytes) end
  pub none : SaysNothing (head_text bytes end)

-- no empty line ends in the first 8,192 bytes
pub record HasLongHead (bytes : List ℕ) : Type 0 where
  pub long : max_head ≤ length bytes
  pub none : HasNoEnd (take max_head bytes) max_head

abbrev pub IsBad : List ℕ → Type 0
IsBad bytes = HasBadHead bytes ⊎ HasLongHead bytes

-- ---- less than a reply

-- no head ends in the bytes, so that it needs one more at the least
pub record NeedsHead (bytes : List ℕ) (needed : ℕ) : Type 0 where
  pub none : EndsNoItem bytes
  pub one : needed ≡ length bytes + 1

-- a head ends in them, and says more contents than follow
pub record NeedsContents (bytes : List ℕ) (needed : ℕ) : Type 0 where
  pub end : ℕ
  pub x : HeadSaid
  pub says : Says bytes end x
  pub whole : needed ≡ end + x.length
  pub few : length bytes < needed

-- the bytes are less than a reply, which has at least so many
abbrev pub Needs : List ℕ → ℕ → Type 0
Needs bytes needed = NeedsHead bytes needed ⊎ NeedsContents bytes needed

abbrev pub IsShort : List ℕ → Type 0
IsShort bytes = (needed : ℕ) × Needs bytes needed
