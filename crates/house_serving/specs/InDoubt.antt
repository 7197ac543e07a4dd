-- How a link ends where the disk fails: with the refusal that tells so.
use Rattle.std.specs.Prelude.{◌≡◌, ℕ, ◌<◌, Bool, false, List, [], ◌∷◌, ◌++◌, Option}
use Rattle.mc_outside.specs.LinkView.{LinkView, next_taken, after_recv, after_send}
use Rattle.mc_requests.specs.declared.limits.Limits.{Limits}
use Rattle.mc_requests.specs.declared.refusal.Refusal.TheVariants.{DiskFault}
use Rattle.mc_records.specs.Entry.{Entry}
use Rattle.mc_requests.specs.Requests.{Asked}
use Rattle.ledger_model.specs.Answer.{answer, Take}
use Rattle.ledger_model.specs.Replies.{refusal_of}
use Rattle.millicent_http.specs.declared.item.After.{After}
use Rattle.millicent_http.specs.Items.{Item, request}
use Rattle.millicent_http.specs.Held.{Held}
use Rattle.millicent_http.specs.Takes.{TookItem}
use Rattle.millicent_http.specs.declared.clock.Clock.TheVariants.{OfLinks}
use Rattle.millicent_http.specs.Steps.{Did, sent_of, state_after}
use Rattle.millicent_http.specs.Courses.{AreRead, with_readings, Replied, AreFirst, HadLinks}
use Rattle.link_turns.specs.Sending.{Sends}
use Rattle.house_core.specs.Session.{State, raised, Step}

-- A request that is accepted with this entry, at a reading of the clock, is told that the disk failed.
pub record RequestInDoubt (limits : Limits) (q : Asked) (s : State) (e : Entry) (said : List ℕ) (before after : LinkView) : Type 0 where
  pub reading : ℕ
  pub read : AreRead OfLinks (reading ∷ []) before.readings after.readings
  pub takes : answer s.history (raised s reading).time limits q ≡ Take e
  pub sent : Sends (refusal_of s.history (raised s reading).time q DiskFault) said (with_readings after.readings before) after

-- from this state, these bytes held and this link on, such a request was taken
pub record InDoubtTurn (limits : Limits) (s : State) (old : Held) (before : LinkView) (e : Entry) (said : List ℕ) (link : LinkView) : Type 0 where
  pub more : List ℕ
  pub q : Asked
  pub closes : Bool
  pub after : After
  pub new : Held
  pub took : TookItem (old.bytes ++ more) old.given (request q closes) after new
  pub in_doubt : RequestInDoubt limits q s e said (after_recv more before) link

-- The first items of a link were answered, and then came such a request.
pub record InDoubtLink (limits : Limits) (steps : List (Did State)) (s : State) (before : LinkView) (e : Entry) (said : List ℕ) (after : LinkView) : Type 0 where
  pub got : List ℕ
  pub front : List Item
  pub q : Asked
  pub closes : Bool
  pub first : AreFirst got front (request q closes)
  pub between : Option (List ℕ)
  pub replied : Replied (Step limits) OfLinks front steps s before.readings between
  pub in_doubt : RequestInDoubt limits q (state_after s steps) e said (with_readings between (after_send (sent_of steps) (after_recv got before))) after

-- Some links were served, fewer than were asked for, and on the next one came such a request. Then that
-- link was ended.
pub record InDoubtLinks (limits : Limits) (links : ℕ) (steps : List (Did State)) (s : State) (before : LinkView) (e : Entry) (said : List ℕ) (after : LinkView) : Type 0 where
  pub n : ℕ
  pub few : n < links
  pub front : List (Did State)
  pub last : List (Did State)
  pub steps_are : steps ≡ front ++ last
  pub between : LinkView
  pub links_had : HadLinks (Step limits) OfLinks n front s before between
  pub stopped : LinkView
  pub last_link : InDoubtLink limits last (state_after s front) (next_taken between) e said stopped
  pub ended : after ≡ record stopped { stands = false }
