-- What is kept of first replies, without how it is stored.
use Rattle.std.specs.Prelude.{ℕ, ◌+◌, ◌<◌, ◌≤◌, Bool, ◌&&◌, ◌==◌, nat_lt, if◌then◌else◌, List, [], ◌∷◌, ◌++◌, length, filter, find, All, IsTrue, Option, Some, None, option_map}
use Rattle.std.specs.List.{list_any, AllByRecursion}
use Rattle.mc_requests.specs.declared.request.Request.{Request}
use Rattle.mc_requests.specs.Requests.{Asked, asked_of}
use Rattle.scrip_form.specs.Scrip.{Scrip, scrip_text}
use Rattle.kept_replies.specs.declared.deed.Deed.{Deed}
use Rattle.kept_replies.specs.declared.deed.Deed.TheVariants as kept
use Rattle.kept_replies.specs.declared.deed.KeptEntry.{KeptEntry}
use Rattle.kept_replies.specs.Requests.{is_same_request}

-- a request, and what is kept of its entry
pub record KeptReply : Type 0 where
  pub asked : Asked
  pub entry : KeptEntry

-- How many bytes the texts have that are kept of an entry: the name and the properties of the change, and of
-- a piece that is sold or drawn its text, and the secret.
abbrev pub piece_size : Scrip → ℕ
piece_size p = length p.vendor + length p.props

abbrev pub change_size : Option Scrip → ℕ
change_size None = 0
change_size (Some p) = piece_size p

abbrev pub sold_size : Scrip → List ℕ → List ℕ → ℕ
sold_size piece cert secret = length (scrip_text piece cert) + length secret

abbrev pub deed_size : Deed → ℕ
deed_size (kept.Sale piece cert secret stock) = sold_size piece cert secret
deed_size (kept.Draw piece cert secret) = sold_size piece cert secret
deed_size _ = 0

abbrev pub entry_size : KeptEntry → ℕ
entry_size e = change_size e.change + deed_size e.deed

-- For how many seconds replies are kept, none where it is 0, the replies in the order of their numbers, and the room that
-- was made: a request and an entry may be kept where their texts have fewer bytes than the room.
pub record KeptView : Type 0 where
  pub keep : ℕ
  pub replies : List KeptReply
  pub room : ℕ

-- the number of a reply is below the number of each of some others
abbrev pub IsBelowAll : KeptReply → List KeptReply → Type 0
IsBelowAll r others = AllByRecursion (λ o. r.entry.number < o.entry.number) others

-- the numbers of some replies rise
abbrev pub AreRising : List KeptReply → Type 0
AreRising [] = Unit {0}
AreRising (r ∷ rs) = IsBelowAll r rs × AreRising rs

-- ---- requests

-- whether a request is kept
abbrev pub has_request : List KeptReply → Asked → Bool
has_request replies q = list_any (λ r. is_same_request r.asked q) replies

-- whether a reply is in time: the time is below its entry's moment plus the keeping time
abbrev pub is_in_time : ℕ → ℕ → KeptReply → Bool
is_in_time keep now r = nat_lt now (r.entry.moment + keep)

-- the entry of the first reply to this request that is in time
abbrev pub found : KeptView → ℕ → Asked → Option KeptEntry
found kept now q = option_map (λ r. r.entry) (find (λ r. is_same_request r.asked q && is_in_time kept.keep now r) kept.replies)

-- of each reply to this request the keeping time is over
abbrev pub NoneInTime : KeptView → ℕ → Asked → Type 0
NoneInTime kept now q = All (λ r. IsTrue (is_same_request r.asked q) → r.entry.moment + kept.keep ≤ now) kept.replies

-- ---- numbers

-- whether a number is kept
abbrev pub has_number : List KeptReply → ℕ → Bool
has_number replies number = list_any (λ r. r.entry.number == number) replies

-- the reply of a number
abbrev pub with_number : List KeptReply → ℕ → Option KeptReply
with_number replies number = find (λ r. r.entry.number == number) replies

-- the number of the first reply
abbrev pub first_number : List KeptReply → Option ℕ
first_number [] = None
first_number (r ∷ rs) = Some r.entry.number

-- the replies with a new one among them by its number: those below it, it, and those above it
abbrev pub inserted : KeptReply → List KeptReply → List KeptReply
inserted new replies =
    filter (λ r. nat_lt r.entry.number new.entry.number) replies ++ new ∷ filter (λ r. nat_lt new.entry.number r.entry.number) replies

-- the replies with a new one, where replies are kept for so many seconds
abbrev pub kept_with : ℕ → KeptReply → List KeptReply → List KeptReply
kept_with keep new replies = if keep == 0 then replies else inserted new replies

-- ---- what the program shows

-- a request of the program with its entry, without where it lies in memory
abbrev pub reply_of : Request × KeptEntry → KeptReply
reply_of p = record { asked = asked_of p.0; entry = p.1 }
