-- What comes of a link of the operator's: one command, which is told whole, done and answered.
use Rattle.std.specs.Prelude.{◌≡◌, ◌⊎◌, ℕ, false, List, [], ◌∷◌, ◌++◌, Result, Ok, Err}
use Rattle.mc_outside.specs.Bytes.{Rose}
use Rattle.mc_outside.specs.DiskView.{DiskView, Ran}
use Rattle.mc_outside.specs.LinkView.{LinkView, after_recv, Failed}
use Rattle.door_wire.specs.Wire.{answer_text}
use Rattle.mc_records.specs.Entry.{Entry}
use Rattle.ledger_model.specs.Histories.{History}
use Rattle.ledger_model.specs.Lawful.{IsLawful, MayFollow}
use Rattle.scrip_journal.specs.Exits.{EitherNoOutput}
use Rattle.millicent_http.specs.declared.clock.Clock.TheVariants.{OfLinks}
use Rattle.millicent_http.specs.Courses.{AreRead, with_readings}
use Rattle.millicent_http.specs.Inputs.{Receives}
use Rattle.millicent_http.specs.Steps.{Did}
use Rattle.command_status.specs.declared.status.Status.{Status}
use Rattle.command_status.specs.declared.status.Status.TheVariants.{DiskFault}
use Rattle.command_status.specs.Statuses.{number_of, line_of}
use Rattle.link_turns.specs.Sending.{Sends}
use Rattle.link_turns.specs.Orders.{HaltsAt}
use Rattle.house_state.specs.Trade.{TradeView}
use Rattle.house_core.specs.HouseView.{HouseView}
use Rattle.house_core.specs.House.{HouseRepresents, KeepsTime}
use Rattle.house_core.specs.Session.{State, raised}
use Rattle.house_serving.specs.Orders.{RefinesBy}
use Rattle.operator_command.specs.Operations.{full}

-- ---- what is told, and what is answered

-- how what is told ends: over a history, at a time, with this status, and which history stands then
abbrev pub Endings : Type 1
Endings = List ℕ → History → ℕ → Status → History → Type 0

-- which entry is in doubt where the disk fails while it is written
abbrev pub Doubts : Type 1
Doubts = List ℕ → History → ℕ → Entry → Type 0

-- the answer of a status: its number, how many bytes its line has, and the line
abbrev pub answer_of : Status → List ℕ
answer_of status = answer_text (number_of status) (line_of status)

-- what is told at a reading of the clock, to which the house time is raised, ends so, and this is answered
abbrev pub DoorStep : Endings → State → ℕ → List ℕ → List ℕ → State → Type 0
DoorStep ends s reading told reply t =
    (status : Status) × ends told s.history (raised s reading).time status t.history × (t.time ≡ (raised s reading).time) × (reply ≡ answer_of status)

-- ---- what is done to the book

-- the house that goes on has the time and the limits of this one, and the disk did not fail; or it failed
abbrev pub KeepsOn : {D T : Type 0} → (D → DiskView) → (D → D → Type 0) → HouseView D T → Result (HouseView D T × Status) D → Type 0
KeepsOn view moved house (Ok r) = moved house.journal.disk r.0.journal.disk × KeepsTime house r.0 × ((view r.0.journal.disk).faults ≡ (view house.journal.disk).faults)
KeepsOn view moved house (Err d) = moved house.journal.disk d × Rose (view house.journal.disk).faults (view d).faults

-- It ended with a status and a history, which is the one before, and then the disk was not touched, or has one entry more, which
-- lasts. Or the disk failed while an entry was written, which may follow.
abbrev pub ActsOn : {D T : Type 0} → (D → DiskView) → (T → TradeView) → (Status → History → Type 0) → (Entry → Type 0) → D → History → Result (HouseView D T × Status) D → Type 0
ActsOn view trade ends doubts disk h (Ok r) =
    (g : History) × ends r.1 g × HouseRepresents view trade r.0 g
    × (((g ≡ h) × (r.0.journal.disk ≡ disk)) ⊎ ((e : Entry) × (g ≡ h ++ e ∷ []) × Ran (view disk) (view r.0.journal.disk) (EitherNoOutput h e (view disk).aside)))
ActsOn view trade ends doubts disk h (Err d) = (e : Entry) × doubts e × MayFollow full h e × Ran (view disk) (view d) (EitherNoOutput h e (view disk).aside)

-- ---- a command

-- at the house time
abbrev pub RepliesCommand : {O T : Type 0} → (O → LinkView) → (O → DiskView) → (T → TradeView) → Endings → Doubts → List ℕ → O → State → Result (HouseView O T) O → Type 0
RepliesCommand link disk trade ends doubts told a s (Ok x) =
    (step : Did State) × (status : Status) × RefinesBy link disk trade a s (step ∷ []) x × ends told s.history s.time status step.after.history × (step.after.time ≡ s.time)
    × Sends (answer_of status) step.sent (link a) (link x.journal.disk)
RepliesCommand link disk trade ends doubts told a s (Err d) =
    (e : Entry) × (said : List ℕ) × HaltsAt link disk a s.history [] e said d × doubts told s.history s.time e × IsLawful full (s.history ++ e ∷ []) × Sends (answer_of DiskFault) said (link a) (link d)

-- at one reading of the clock; the answer was sent, or not the whole of it
pub record CommandAnswered (ends : Endings) (told : List ℕ) (step : Did State) (s : State) (before after : LinkView) : Type 0 where
  pub reading : ℕ
  pub read : AreRead OfLinks (reading ∷ []) before.readings after.readings
  pub reply : List ℕ
  pub stepped : DoorStep ends s reading told reply step.after
  pub sent : Sends reply step.sent (with_readings after.readings before) after

-- at one reading of the clock an entry was written when the disk failed, and that is told
pub record CommandInDoubt (doubts : Doubts) (told : List ℕ) (s : State) (e : Entry) (said : List ℕ) (before after : LinkView) : Type 0 where
  pub reading : ℕ
  pub read : AreRead OfLinks (reading ∷ []) before.readings after.readings
  pub may : doubts told s.history (raised s reading).time e
  pub lawful : IsLawful full (s.history ++ e ∷ [])
  pub sent : Sends (answer_of DiskFault) said (with_readings after.readings before) after

abbrev pub AnswersCommand : {O T : Type 0} → (O → LinkView) → (O → DiskView) → (T → TradeView) → Endings → Doubts → List ℕ → O → State → Result (HouseView O T) O → Type 0
AnswersCommand link disk trade ends doubts told a s (Ok x) = (step : Did State) × RefinesBy link disk trade a s (step ∷ []) x × CommandAnswered ends told step s (link a) (link x.journal.disk)
AnswersCommand link disk trade ends doubts told a s (Err d) = (e : Entry) × (said : List ℕ) × HaltsAt link disk a s.history [] e said d × CommandInDoubt doubts told s e said (link a) (link d)

-- ---- its link

-- All that came on the link, up to its end or to so many bytes, was done as a command and answered.
pub record CommandServed (ends : Endings) (most : ℕ) (steps : List (Did State)) (s : State) (before after : LinkView) : Type 0 where
  pub told : List ℕ
  pub n : ℕ
  pub read : LinkView
  pub heard : Receives most before n told read
  pub step : Did State
  pub one : steps ≡ step ∷ []
  pub answered : CommandAnswered ends told step s read after

-- receiving failed, and nothing was done
pub record CommandLost (steps : List (Did State)) (before after : LinkView) : Type 0 where
  pub none : steps ≡ []
  pub got : List ℕ
  pub fault : Failed (after_recv got before) after

-- What becomes of a link of the operator's: its command is done and answered, or lost; and then the link is ended.
pub record HadCommand (ends : Endings) (most : ℕ) (steps : List (Did State)) (s : State) (before after : LinkView) : Type 0 where
  pub served : LinkView
  pub course : CommandServed ends most steps s before served ⊎ CommandLost steps before served
  pub ended : after ≡ record served { stands = false }

-- the disk failed while the entry of its command was written
pub record DoubtsCommand (doubts : Doubts) (most : ℕ) (steps : List (Did State)) (s : State) (before : LinkView) (e : Entry) (said : List ℕ) (after : LinkView) : Type 0 where
  pub none : steps ≡ []
  pub told : List ℕ
  pub n : ℕ
  pub read : LinkView
  pub heard : Receives most before n told read
  pub in_doubt : CommandInDoubt doubts told s e said read after
