-- What comes of serving links by a proxy.
use Rattle.std.specs.Prelude.{◌≡◌, ◌⊎◌, ◌≤◌, ◌<◌, ◌+◌, ℕ, Bool, false, IsTrue, List, [], ◌∷◌, ◌++◌, Option, Result, Ok, Err}
use Rattle.mc_outside.specs.Bytes.{Rose}
use Rattle.mc_outside.specs.DiskView.{DiskView}
use Rattle.mc_outside.specs.LinkView.{LinkView, next_taken, after_recv, after_send}
use Rattle.mc_requests.specs.declared.limits.Limits.{Limits}
use Rattle.mc_requests.specs.declared.refusal.Refusal.{Refusal}
use Rattle.mc_requests.specs.declared.refusal.Refusal.TheVariants.{DiskFault}
use Rattle.mc_records.specs.Entry.{Entry}
use Rattle.mc_requests.specs.Requests.{Asked}
use Rattle.ledger_model.specs.Histories.{History}
use Rattle.millicent_http.specs.declared.item.After.{After}
use Rattle.millicent_http.specs.Items.{Item, request, refused}
use Rattle.millicent_http.specs.Held.{Held}
use Rattle.millicent_http.specs.Takes.{TookItem}
use Rattle.millicent_http.specs.declared.clock.Clock.TheVariants.{OfLinks}
use Rattle.millicent_http.specs.Steps.{Did, sent_of, state_after}
use Rattle.millicent_http.specs.Courses.{AreRead, with_readings, Replied, AreFirst, HadLink, HadLinks, ServedAll, ServedSome}
use Rattle.millicent_http.specs.Received.{Received}
use Rattle.wallet_core.specs.WalletView.{WalletView}
use Rattle.wallet_core.specs.Wallet.{WalletStands}
use Rattle.link_turns.specs.declared.turn.Turn.{Turn}
use Rattle.link_turns.specs.Sending.{Sends, KeptCounts, TakesNoLink}
use Rattle.link_turns.specs.Turns.{Sent, AnsweredItem, Turned, Ended}
use Rattle.link_turns.specs.Orders.{WentBy, HaltsAt, HaltedBy}
use Rattle.wallet_proxy.specs.declared.allowance.Allowance.{Allowance}
use Rattle.wallet_proxy.specs.declared.links.ProxyOut.{ProxyOut}
use Rattle.wallet_proxy.specs.declared.links.ProxyOut.TheVariants as outs
use Rattle.wallet_proxy.specs.Told.{Told, refusal, told_reply}
use Rattle.wallet_proxy.specs.Proxy.{ProxyState, history_of, Bounds, payment_for, raised, ProxyStep, DoubtsBy, paid_by, settled_told}

-- ---- a proxy between two calls

-- a wallet, what was paid so far, and the links to the vendor
pub record Now (O : Type 0) : Type 0 where
  pub wallet : WalletView O
  pub paid : ℕ
  pub up : LinkView

abbrev pub out_of : {O : Type 0} → Now O → O
out_of x = x.wallet.journal.disk

abbrev pub now : {O : Type 0} → WalletView O → ℕ → LinkView → Now O
now wallet paid up = record { wallet = wallet; paid = paid; up = up }

-- It is in this state, and has not paid more than it may.
pub record StandsAt {O : Type 0} (disk : O → DiskView) (budget : ℕ) (x : Now O) (s : ProxyState) : Type 0 where
  pub book : WalletStands disk x.wallet s.history
  pub time' : x.wallet.book.time ≡ s.time
  pub paid' : x.paid ≡ s.paid
  pub up' : x.up ≡ s.up
  pub within : s.paid ≤ budget

-- the state of a wallet that stands for a history
abbrev pub state_at : {O : Type 0} → History → Now O → ProxyState
state_at h x = record { history = h; time = x.wallet.book.time; paid = x.paid; up = x.up }

abbrev pub bounds_of : Allowance → Limits → Bounds
bounds_of a limits = record { vendor = a.vendor; limit = a.limit; budget = a.budget; limits = limits }

-- it came from this state to what it is by these steps, and each crash pair is in order
abbrev pub Went : {O : Type 0} → (O → LinkView) → (O → DiskView) → ℕ → O → ProxyState → List (Did ProxyState) → Now O → Type 0
Went link disk budget a s steps x = WentBy link disk out_of (StandsAt disk budget) history_of a s steps x

-- ---- an item

-- At the time of the state something was told, by which the state became that of the wallet that comes back; its reply was sent, or
-- not the whole of it. Or the disk failed, and it was told so.
abbrev pub Answers : {O : Type 0} → (O → LinkView) → (O → DiskView) → ℕ → (Told → ProxyState → Type 0) → (List Entry → Entry → LinkView → Type 0) → After → O → ProxyState → ℕ → LinkView → Result (WalletView O × Turn) O → Type 0
Answers link disk budget Does Doubts after a s paid up (Ok r) =
    (step : Did ProxyState) × (told : Told) × Went link disk budget a s (step ∷ []) (now r.0 paid up) × Does told step.after
    × Sent after (told_reply s.time told) r.1 step.sent (link a) (link r.0.journal.disk)
Answers link disk budget Does Doubts after a s paid up (Err d) =
    (added : List Entry) × (e : Entry) × (said : List ℕ) × HaltsAt link disk a s.history added e said d × Doubts added e up
    × Sends (told_reply s.time (refusal DiskFault)) said (link a) (link d)

-- What it brought was told of a reply that settled a get, and its price was added to what was paid.
pub record TellsSettled (after : After) (time paid : ℕ) (r : Received) (before : LinkView) (now_paid : ℕ) (turn : Turn) (then' : LinkView) : Type 0 where
  pub more : now_paid ≡ paid + paid_by r
  pub part : List ℕ
  pub sent : Sent after (told_reply time (settled_told r)) turn part before then'

-- A request that asks so, at a reading of the clock, is told that the disk failed.
pub record RequestInDoubt (b : Bounds) (q : Asked) (s : ProxyState) (added : List Entry) (e : Entry) (up : LinkView) (said : List ℕ) (before after : LinkView) : Type 0 where
  pub reading : ℕ
  pub read : AreRead OfLinks (reading ∷ []) before.readings after.readings
  pub doubts : DoubtsBy b (raised s reading) q.target (payment_for b (raised s reading) q) added e up
  pub sent : Sends (told_reply (raised s reading).time (refusal DiskFault)) said (with_readings after.readings before) after

-- one request that was taken
abbrev pub AnswersRequest : {O : Type 0} → (O → LinkView) → (O → DiskView) → Bounds → Asked → After → O → ProxyState → ℕ → LinkView → Result (WalletView O × Turn) O → Type 0
AnswersRequest link disk b q after a s paid up (Ok r) =
    (step : Did ProxyState) × Went link disk b.budget a s (step ∷ []) (now r.0 paid up) × ((closes : Bool) → AnsweredItem (ProxyStep b) OfLinks (request q closes) after r.1 step s (link a) (link r.0.journal.disk))
AnswersRequest link disk b q after a s paid up (Err d) =
    (added : List Entry) × (e : Entry) × (said : List ℕ) × HaltsAt link disk a s.history added e said d × RequestInDoubt b q s added e up said (link a) (link d)

-- one head that was refused
abbrev pub RefusesHead : {O : Type 0} → (O → LinkView) → (O → DiskView) → Bounds → Refusal → After → O → ProxyState → ℕ → LinkView → WalletView O × Turn → Type 0
RefusesHead link disk b f after a s paid up r =
    (step : Did ProxyState) × Went link disk b.budget a s (step ∷ []) (now r.0 paid up) × ((closes : Bool) → AnsweredItem (ProxyStep b) OfLinks (refused f closes) after r.1 step s (link a) (link r.0.journal.disk))

-- ---- links

-- from this state, these bytes held and this link on, such a request was taken
pub record InDoubtTurn (b : Bounds) (s : ProxyState) (old : Held) (before : LinkView) (added : List Entry) (e : Entry) (up : LinkView) (said : List ℕ) (link : LinkView) : Type 0 where
  pub more : List ℕ
  pub q : Asked
  pub closes : Bool
  pub after : After
  pub new : Held
  pub took : TookItem (old.bytes ++ more) old.given (request q closes) after new
  pub in_doubt : RequestInDoubt b q s added e up said (after_recv more before) link

-- The first items of a link were answered, and then came such a request.
pub record InDoubtLink (b : Bounds) (steps : List (Did ProxyState)) (s : ProxyState) (before : LinkView) (added : List Entry) (e : Entry) (up : LinkView) (said : List ℕ) (after : LinkView) : Type 0 where
  pub got : List ℕ
  pub front : List Item
  pub q : Asked
  pub closes : Bool
  pub first : AreFirst got front (request q closes)
  pub between : Option (List ℕ)
  pub replied : Replied (ProxyStep b) OfLinks front steps s before.readings between
  pub in_doubt : RequestInDoubt b q (state_after s steps) added e up said (with_readings between (after_send (sent_of steps) (after_recv got before))) after

-- Some links were served, fewer than were asked for, and on the next one came such a request. Then that
-- link was ended.
pub record InDoubtLinks (b : Bounds) (links : ℕ) (steps : List (Did ProxyState)) (s : ProxyState) (before : LinkView) (added : List Entry) (e : Entry) (up : LinkView) (said : List ℕ) (after : LinkView) : Type 0 where
  pub n : ℕ
  pub few : n < links
  pub front : List (Did ProxyState)
  pub last : List (Did ProxyState)
  pub steps_are : steps ≡ front ++ last
  pub between : LinkView
  pub links_had : HadLinks (ProxyStep b) OfLinks n front s before between
  pub stopped : LinkView
  pub last_link : InDoubtLink b last (state_after s front) (next_taken between) added e up said stopped
  pub ended : after ≡ record stopped { stands = false }

-- one turn
abbrev pub TurnsProxy : {O : Type 0} → (O → LinkView) → (O → DiskView) → Bounds → O → ProxyState → ℕ → LinkView → Held → Held → Result (WalletView O × Turn) O → Type 0
TurnsProxy link disk b a s paid up old new (Ok r) =
    (steps : List (Did ProxyState)) × Went link disk b.budget a s steps (now r.0 paid up) × Turned (ProxyStep b) OfLinks r.1 steps s old (link a) new (link r.0.journal.disk)
TurnsProxy link disk b a s paid up old new (Err d) =
    (added : List Entry) × (e : Entry) × (said : List ℕ) × HaltsAt link disk a s.history added e said d × InDoubtTurn b s old (link a) added e up said (link d)

-- the turns of a link
abbrev pub EndsTurns : {O : Type 0} → (O → LinkView) → (O → DiskView) → Bounds → O → ProxyState → ℕ → LinkView → Result (WalletView O × Turn) O → Type 0
EndsTurns link disk b a s paid up (Ok r) =
    (steps : List (Did ProxyState)) × Went link disk b.budget a s steps (now r.0 paid up) × Ended (ProxyStep b) OfLinks r.1 steps s (link a) (link r.0.journal.disk)
EndsTurns link disk b a s paid up (Err d) =
    (steps : List (Did ProxyState)) × (added : List Entry) × (e : Entry) × (said : List ℕ) × HaltedBy link disk history_of a s steps added e said d × InDoubtLink b steps s (link a) added e up said (link d)

-- a link
abbrev pub ServesLink : {O : Type 0} → (O → LinkView) → (O → DiskView) → Bounds → O → ProxyState → ℕ → LinkView → Result (WalletView O) O → Type 0
ServesLink link disk b a s paid up (Ok x) =
    (steps : List (Did ProxyState)) × Went link disk b.budget a s steps (now x paid up) × HadLink (ProxyStep b) OfLinks steps s (link a) (link x.journal.disk)
ServesLink link disk b a s paid up (Err d) =
    (steps : List (Did ProxyState)) × (added : List Entry) × (e : Entry) × (said : List ℕ) × (stopped : LinkView) × HaltedBy link disk history_of a s steps added e said d × InDoubtLink b steps s (link a) added e up said stopped × (link d ≡ record stopped { stands = false })

-- ---- all

-- the outside that comes back, whatever is answered
abbrev pub proxied_outside : {O : Type 0} → ProxyOut O → O
proxied_outside (outs.Done x n paid) = x.journal.disk
proxied_outside (outs.Link x) = x.journal.disk
proxied_outside (outs.NoMemory x) = x.journal.disk
proxied_outside (outs.Halted d) = d

-- Links were served from this state on, at the readings of the links' clock: so many, or all that came;
-- or up to a failing `next_link`; or none for want of memory; or up to a request of which an entry is in doubt
-- since the disk failed.
abbrev pub ServesLinks : {O : Type 0} → (O → LinkView) → (O → DiskView) → Bounds → ℕ → O → ProxyState → LinkView → ProxyOut O → Type 0
ServesLinks link disk b links a s up (outs.Done x n paid) =
    (steps : List (Did ProxyState)) × Went link disk b.budget a s steps (now x paid up) × ServedAll (ProxyStep b) OfLinks links n steps s (link a) (link x.journal.disk)
ServesLinks link disk b links a s up (outs.Link x) =
    (steps : List (Did ProxyState)) × (paid : ℕ) × Went link disk b.budget a s steps (now x paid up) × ServedSome (ProxyStep b) OfLinks links steps s (link a) (link x.journal.disk)
ServesLinks link disk b links a s up (outs.NoMemory x) = (x.journal.disk ≡ a) × WalletStands disk x s.history × (up ≡ s.up)
ServesLinks link disk b links a s up (outs.Halted d) =
    (steps : List (Did ProxyState)) × (added : List Entry) × (e : Entry) × (said : List ℕ) × HaltedBy link disk history_of a s steps added e said d × InDoubtLinks b links steps s (link a) added e up said (link d)

-- Each fault that is answered has its cause: the count of the disk's faults rose where the proxy halted, and
-- `next_link` failed where a link could not be taken; in any other answer the disk did not fail.
abbrev pub HaveCauses : {O : Type 0} → (O → LinkView) → (O → DiskView) → O → ProxyOut O → Type 0
HaveCauses link disk a (outs.Done x n paid) = KeptCounts link disk a x.journal.disk
HaveCauses link disk a (outs.Link x) = TakesNoLink link disk a x.journal.disk
HaveCauses link disk a (outs.NoMemory x) = x.journal.disk ≡ a
HaveCauses link disk a (outs.Halted d) = Rose (disk a).faults (disk d).faults

-- As many links were served as were asked for; or fewer, where `next_link` has answered that no more come.
abbrev pub ServedEnough : {O : Type 0} → (O → LinkView) → ℕ → ProxyOut O → Type 0
ServedEnough link links (outs.Done x n paid) = (n ≡ links) ⊎ ((n < links) × IsTrue (link x.journal.disk).over)
ServedEnough link links _ = Unit {0}

-- Where no link was taken for want of memory, the links to the vendor are as they were.
abbrev pub LeftAlone : {O : Type 0} → LinkView → LinkView → ProxyOut O → Type 0
LeftAlone before after (outs.NoMemory x) = after ≡ before
LeftAlone before after _ = Unit {0}
