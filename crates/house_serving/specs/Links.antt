-- What comes of serving links by a house over a journal.
use Rattle.std.specs.Prelude.{◌≡◌, ◌<◌, ◌⊎◌, ℕ, Bool, false, IsTrue, List, [], ◌∷◌, Result, Ok, Err}
use Rattle.mc_outside.specs.Bytes.{Rose}
use Rattle.mc_outside.specs.DiskView.{DiskView}
use Rattle.mc_outside.specs.LinkView.{LinkView}
use Rattle.mc_requests.specs.declared.limits.Limits.{Limits}
use Rattle.mc_requests.specs.declared.refusal.Refusal.{Refusal}
use Rattle.mc_requests.specs.declared.refusal.Refusal.TheVariants.{DiskFault}
use Rattle.mc_records.specs.Entry.{Entry}
use Rattle.mc_requests.specs.Requests.{Asked}
use Rattle.ledger_model.specs.Answer.{answer, Take}
use Rattle.ledger_model.specs.Replies.{refusal_of}
use Rattle.millicent_http.specs.declared.item.After.{After}
use Rattle.millicent_http.specs.Items.{request, refused}
use Rattle.millicent_http.specs.Held.{Held}
use Rattle.millicent_http.specs.declared.clock.Clock.TheVariants.{OfLinks}
use Rattle.millicent_http.specs.Steps.{Did}
use Rattle.millicent_http.specs.Courses.{HadLink, ServedAll, ServedSome}
use Rattle.link_turns.specs.declared.turn.Turn.{Turn}
use Rattle.link_turns.specs.Turns.{Sent, AnsweredItem, Turned, Ended}
use Rattle.link_turns.specs.Sending.{Sends, KeptCounts, TakesNoLink}
use Rattle.link_turns.specs.Orders.{HaltsAt}
use Rattle.house_core.specs.HouseView.{HouseView}
use Rattle.house_core.specs.Session.{State, Gives, Step}
use Rattle.house_serving.specs.declared.links.ServeOut.{ServeOut}
use Rattle.house_serving.specs.declared.links.ServeOut.TheVariants.{Done, Link, NoMemory, Halted}
use Rattle.house_serving.specs.Orders.{RefinesBy, HouseHalted}
use Rattle.house_serving.specs.InDoubt.{RequestInDoubt, InDoubtTurn, InDoubtLink, InDoubtLinks}
use Rattle.house_state.specs.Trade.{TradeView}

-- the outside that comes back, whatever is answered
abbrev pub served_outside : {O T : Type 0} → ServeOut O T → O
served_outside (Done x n) = x.journal.disk
served_outside (Link x) = x.journal.disk
served_outside (NoMemory x) = x.journal.disk
served_outside (Halted d) = d

-- Links were served from this state on, at the readings of the links' clock: so many, or all that came;
-- or up to a failing `next_link`; or none for want of memory; or up to a request whose entry is in doubt
-- since the disk failed.
abbrev pub ServesLinks : {O T : Type 0} → (O → LinkView) → (O → DiskView) → (T → TradeView) → Limits → ℕ → O → State → ServeOut O T → Type 0
ServesLinks link disk trade limits links a s (Done x n) =
    (steps : List (Did State)) × RefinesBy link disk trade a s steps x × ServedAll (Step limits) OfLinks links n steps s (link a) (link x.journal.disk)
ServesLinks link disk trade limits links a s (Link x) =
    (steps : List (Did State)) × RefinesBy link disk trade a s steps x × ServedSome (Step limits) OfLinks links steps s (link a) (link x.journal.disk)
ServesLinks link disk trade limits links a s (NoMemory x) = RefinesBy link disk trade a s [] x × (x.journal.disk ≡ a)
ServesLinks link disk trade limits links a s (Halted d) =
    (steps : List (Did State)) × (e : Entry) × (said : List ℕ) × HouseHalted link disk a s steps e said d × InDoubtLinks limits links steps s (link a) e said (link d)

-- Each fault that is answered has its cause: the count of the disk's faults rose where the house halted, and
-- `next_link` failed where a link could not be taken; in any other answer the disk did not fail.
abbrev pub HaveCauses : {O T : Type 0} → (O → LinkView) → (O → DiskView) → O → ServeOut O T → Type 0
HaveCauses link disk a (Done x n) = KeptCounts link disk a x.journal.disk
HaveCauses link disk a (Link x) = TakesNoLink link disk a x.journal.disk
HaveCauses link disk a (NoMemory x) = x.journal.disk ≡ a
HaveCauses link disk a (Halted d) = Rose (disk a).faults (disk d).faults

-- As many links were served as were asked for; or fewer, where `next_link` has answered that no more come.
abbrev pub ServedEnough : {O T : Type 0} → (O → LinkView) → ℕ → ServeOut O T → Type 0
ServedEnough link links (Done x n) = (n ≡ links) ⊎ ((n < links) × IsTrue (link x.journal.disk).over)
ServedEnough link links _ = Unit {0}

-- ---- its parts

-- A request was replied to at the house time: by its first reply or by its refusal, which was sent, or not
-- the whole of it. Or the disk failed while its entry was written, and it was told so.
abbrev pub RepliesTo : {O T : Type 0} → (O → LinkView) → (O → DiskView) → (T → TradeView) → Limits → Asked → After → O → State → Result (HouseView O T × Turn) O → Type 0
RepliesTo link disk trade limits q after a s (Ok r) =
    (step : Did State) × (reply : List ℕ) × RefinesBy link disk trade a s (step ∷ []) r.0 × Gives s q (answer s.history s.time limits q) reply step.after
    × Sent after reply r.1 step.sent (link a) (link r.0.journal.disk)
RepliesTo link disk trade limits q after a s (Err d) =
    (e : Entry) × (said : List ℕ) × HaltsAt link disk a s.history [] e said d × (answer s.history s.time limits q ≡ Take e)
    × Sends (refusal_of s.history s.time q DiskFault) said (link a) (link d)

-- one request that was taken
abbrev pub AnswersRequest : {O T : Type 0} → (O → LinkView) → (O → DiskView) → (T → TradeView) → Limits → Asked → After → O → State → Result (HouseView O T × Turn) O → Type 0
AnswersRequest link disk trade limits q after a s (Ok r) =
    (step : Did State) × RefinesBy link disk trade a s (step ∷ []) r.0 × ((closes : Bool) → AnsweredItem (Step limits) OfLinks (request q closes) after r.1 step s (link a) (link r.0.journal.disk))
AnswersRequest link disk trade limits q after a s (Err d) =
    (e : Entry) × (said : List ℕ) × HaltsAt link disk a s.history [] e said d × RequestInDoubt limits q s e said (link a) (link d)

-- one head that was refused
abbrev pub RefusesHead : {O T : Type 0} → (O → LinkView) → (O → DiskView) → (T → TradeView) → Limits → Refusal → After → O → State → HouseView O T × Turn → Type 0
RefusesHead link disk trade limits f after a s r =
    (step : Did State) × RefinesBy link disk trade a s (step ∷ []) r.0 × ((closes : Bool) → AnsweredItem (Step limits) OfLinks (refused f closes) after r.1 step s (link a) (link r.0.journal.disk))

-- one turn
abbrev pub TurnsHouse : {O T : Type 0} → (O → LinkView) → (O → DiskView) → (T → TradeView) → Limits → O → State → Held → Held → Result (HouseView O T × Turn) O → Type 0
TurnsHouse link disk trade limits a s old new (Ok r) =
    (steps : List (Did State)) × RefinesBy link disk trade a s steps r.0 × Turned (Step limits) OfLinks r.1 steps s old (link a) new (link r.0.journal.disk)
TurnsHouse link disk trade limits a s old new (Err d) =
    (e : Entry) × (said : List ℕ) × HaltsAt link disk a s.history [] e said d × InDoubtTurn limits s old (link a) e said (link d)

-- the turns of a link
abbrev pub EndsTurns : {O T : Type 0} → (O → LinkView) → (O → DiskView) → (T → TradeView) → Limits → O → State → Result (HouseView O T × Turn) O → Type 0
EndsTurns link disk trade limits a s (Ok r) =
    (steps : List (Did State)) × RefinesBy link disk trade a s steps r.0 × Ended (Step limits) OfLinks r.1 steps s (link a) (link r.0.journal.disk)
EndsTurns link disk trade limits a s (Err d) =
    (steps : List (Did State)) × (e : Entry) × (said : List ℕ) × HouseHalted link disk a s steps e said d × InDoubtLink limits steps s (link a) e said (link d)

-- a link
abbrev pub ServesLink : {O T : Type 0} → (O → LinkView) → (O → DiskView) → (T → TradeView) → Limits → O → State → Result (HouseView O T) O → Type 0
ServesLink link disk trade limits a s (Ok x) =
    (steps : List (Did State)) × RefinesBy link disk trade a s steps x × HadLink (Step limits) OfLinks steps s (link a) (link x.journal.disk)
ServesLink link disk trade limits a s (Err d) =
    (steps : List (Did State)) × (e : Entry) × (said : List ℕ) × (stopped : LinkView) × HouseHalted link disk a s steps e said d × InDoubtLink limits steps s (link a) e said stopped × (link d ≡ record stopped { stands = false })
