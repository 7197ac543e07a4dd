-- What links mean, and what their calls do to that.
use Rattle.std.specs.Prelude.{◌≡◌, ◌≢◌, ℕ, ◌^◌, ◌<◌, ◌≤◌, ◌==◌, Bool, true, false, List, [], ◌∷◌, ◌++◌, length, Option, Some, option_map, is_some, IsSome, IsTrue}
use Rattle.std.specs.List.{list_any}
use Rattle.mc_outside.specs.Bytes.{Rose}

-- one link: the bytes received, the bytes sent, and whether it was read to its end
pub record Session : Type 0 where
  pub received : List ℕ
  pub sent : List ℕ
  pub to_end : Bool

pub record LinkView : Type 0 where
  -- the links taken, in order, where they are told; the last may still stand
  pub sessions : Option (List Session)
  -- the bytes said, where they are told
  pub said : Option (List ℕ)
  -- the readings of the clock, in order, where they are told
  pub readings : Option (List ℕ)
  -- whether a link stands, and whether that link was read to its end
  pub stands : Bool
  pub at_end : Bool
  -- whether `next_link` has answered false
  pub over : Bool
  -- how often a call failed
  pub faults : ℕ
  -- the numbers, from 0, of the links that come through the operator's door, where they are told; no call changes them
  pub doors : Option (List ℕ)

-- the bytes sent over all links, in order
abbrev pub all_sent : List Session → List ℕ
all_sent [] = []
all_sent (s ∷ ss) = s.sent ++ all_sent ss

-- the list with its last link changed
abbrev pub on_last : (Session → Session) → List Session → List Session
on_last f [] = []
on_last f (s ∷ []) = f s ∷ []
on_last f (s ∷ t ∷ ss) = s ∷ on_last f (t ∷ ss)

-- one link with these bytes received behind the others
abbrev pub hear : List ℕ → Session → Session
hear bytes s = record s { received = s.received ++ bytes }

-- one link with these bytes sent behind the others
abbrev pub send : List ℕ → Session → Session
send bytes s = record s { sent = s.sent ++ bytes }

-- one link, read to its end
abbrev pub ended : Session → Session
ended s = record s { to_end = true }

-- one link, just taken
abbrev pub fresh : Session
fresh = record { received = []; sent = []; to_end = false }

-- one more link was taken, and stands
abbrev pub next_taken : LinkView → LinkView
next_taken v = record v { sessions = option_map (λ ss. ss ++ fresh ∷ []) v.sessions; stands = true; at_end = false }

-- no link stands, and no more come
abbrev pub none_left : LinkView → LinkView
none_left v = record v { stands = false; over = true }

-- these bytes were received on the standing link
abbrev pub after_recv : List ℕ → LinkView → LinkView
after_recv bytes v = record v { sessions = option_map (on_last (hear bytes)) v.sessions }

-- these bytes were sent on the standing link
abbrev pub after_send : List ℕ → LinkView → LinkView
after_send bytes v = record v { sessions = option_map (on_last (send bytes)) v.sessions }

-- the standing link was read to its end
abbrev pub after_eof : LinkView → LinkView
after_eof v = record v { sessions = option_map (on_last ended) v.sessions; at_end = true }

-- whether the link that was taken last came through the operator's door, where that is told
abbrev pub IsWhose : LinkView → Bool → Type 0
IsWhose v door = (ds : List ℕ) (ss : List Session) (s : Session) → v.doors ≡ Some ds → v.sessions ≡ Some (ss ++ s ∷ []) → door ≡ list_any (λ n. n == length ss) ds

-- nothing but the count of faults changed, which rose
pub record Failed (before after : LinkView) : Type 0 where
  pub same : after ≡ record before { faults = after.faults }
  pub rose : Rose before.faults after.faults

-- what holds of every link at each moment
pub record IsLink (a : LinkView) : Type 0 where
  -- the standing link is one that was taken
  pub taken : IsTrue a.stands → a.sessions ≢ Some []
  -- `at_end` speaks of the last link taken
  pub last_end : (ss : List Session) (s : Session) → IsTrue a.stands → a.sessions ≡ Some (ss ++ s ∷ []) → s.to_end ≡ a.at_end
  pub below : a.faults < 2 ^ 64

-- the links alone worked between a and b
pub record LinkGoes (a b : LinkView) : Type 0 where
  pub faults : a.faults ≤ b.faults
  pub over : IsTrue a.over → IsTrue b.over
  pub tells : is_some b.sessions ≡ is_some a.sessions
  pub tells_said : is_some b.said ≡ is_some a.said
  -- a link may stop telling its readings, since `now` can't fail for want of memory
  pub tells_readings : IsSome b.readings → IsSome a.readings
