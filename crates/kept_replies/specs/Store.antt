-- How the program stores what is kept. No clause of a public call cites this.
use Rattle.std.specs.Prelude.{◌≡◌, ℕ, ◌+◌, ◌-◌, ◌<◌, ◌≤◌, ◌^◌, Bool, false, ◌&&◌, ◌==◌, nat_lt, if◌then◌else◌, List, [], ◌∷◌, All, IsTrue, IsFalse, Option, Some, None, length}
use Rattle.std.specs.List.{AllByRecursion}
use Rattle.std.specs.List.Sorted.{IsPartitionPoint}
use Rattle.mc_requests.specs.Requests.{Asked}
use Rattle.kept_replies.specs.Requests.{is_same_request}
use Rattle.kept_replies.specs.Kept.{KeptReply, KeptView, AreRising, is_in_time, with_number}
use Rattle.kept_replies.specs.declared.parts.TheConstants.{MOST_BESIDE}
use Rattle.kept_replies.specs.Index.{IndexView, request_tag, leads, is_mark_of, marks}

-- two replies have one number where they are to the same request
abbrev pub HaveOneNumber : KeptReply → KeptReply → Type 0
HaveOneNumber r o = IsTrue (is_same_request r.asked o.asked) → r.entry.number ≡ o.entry.number

-- each of some replies is to a request of its own
abbrev pub AreToOwnRequests : List KeptReply → Type 0
AreToOwnRequests replies = All (λ r. All (HaveOneNumber r) replies) replies

-- whether the marks lead from the tag of a reply's request to the reply
abbrev pub has_mark : IndexView → KeptReply → Bool
has_mark index r = leads index (request_tag r.asked) (is_mark_of r)

-- the moment of a reply is above the moment of none of some others
abbrev pub IsAboveNone : KeptReply → List KeptReply → Type 0
IsAboveNone r others = AllByRecursion (λ o. r.entry.moment ≤ o.entry.moment) others

-- where a number goes among some replies: before are those of lower numbers, and no others
abbrev pub IsPlaceOf : ℕ → List KeptReply → ℕ → Type 0
IsPlaceOf n replies at = IsPartitionPoint (λ r. IsTrue (nat_lt r.entry.number n)) (λ r. IsFalse (nat_lt r.entry.number n)) replies at

-- no moment of some replies is below one before it
abbrev pub AreInOrder : List KeptReply → Type 0
AreInOrder [] = Unit {0}
AreInOrder (r ∷ rs) = IsAboveNone r rs × AreInOrder rs

-- What holds of what is stored: the numbers rise, the moments are in order where it is noted, each reply
-- is to a request of its own and has its mark, there are no more marks than replies, and the buffer for the next
-- reply is empty and has room for fewer than 2^16 bytes.
pub record IsStored (replies : List KeptReply) (in_order : Bool) (index : IndexView) (spare : List ℕ) (spare_room : ℕ) : Type 0 where
  pub rising : AreRising replies
  pub order : IsTrue in_order → AreInOrder replies
  pub own : AreToOwnRequests replies
  pub marked : All (λ r. IsTrue (has_mark index r)) replies
  pub few : marks index ≤ length replies
  pub empty : spare ≡ []
  pub short : spare_room < 2 ^ 16

-- the room of so many replies in so many places, where there is a place for a mark or not, with a
-- buffer that may hold so many bytes: none without a free place and one for a mark, and else one more
-- than these bytes without those that an entry may need beside its texts
abbrev pub room_in : ℕ → ℕ → Bool → ℕ → ℕ
room_in replies places has_place bytes = if nat_lt replies places && has_place then bytes + 1 - MOST_BESIDE else 0

-- the same where replies are kept for so many seconds: where none is kept it is as large as a request and an entry may need
abbrev pub room_for : ℕ → ℕ → ℕ
room_for keep room = if keep == 0 then 2 ^ 16 else room

-- whether a reply that may be there is to this request, and in time
abbrev pub is_found : ℕ → ℕ → Asked → Option KeptReply → Bool
is_found keep now q None = false
is_found keep now q (Some r) = is_same_request r.asked q && is_in_time keep now r

-- whether the reply of this number is
abbrev pub is_repeat : KeptView → ℕ → Asked → ℕ → Bool
is_repeat kept now q number = is_found kept.keep now q (with_number kept.replies number)
