-- Links of a site with a door for its operator, as events of a schedule: a command is Enter of its entry, or enters none.
use Rattle.std.specs.Prelude.{◌≡◌, ◌⊎◌, ℕ, zero, suc, true, false, List, [], ◌∷◌, ◌++◌, Some, slice_get}
use Rattle.mc_outside.specs.DiskView.{DiskView}
use Rattle.mc_outside.specs.LinkView.{LinkView, IsWhose, next_taken, after_recv, after_send, after_eof}
use Rattle.mc_records.specs.Entry.{Entry, moment_of, payload}
use Rattle.ledger_model.specs.Histories.{History}
use Rattle.ledger_model.specs.Lawful.{IsLawful}
use Rattle.scrip_journal.specs.Layout.{Encodes}
use Rattle.command_status.specs.declared.status.Status.{Status}
use Rattle.command_status.specs.declared.status.Status.TheVariants as statuses
use Rattle.millicent_http.specs.declared.clock.Clock.TheVariants.{OfLinks}
use Rattle.millicent_http.specs.Steps.{Did, state_after}
use Rattle.millicent_http.specs.Courses.{AreRead}
use Rattle.house_state.specs.CommandEntries.{IsCommand}
use Rattle.house_core.specs.Session.{State, raised, entered}
use Rattle.operator_command.specs.Operations.{full}
use Rattle.house_doors.specs.declared.command.TheConstants.{MOST_TOLD}
use Rattle.house_doors.specs.Commands.{Endings, Doubts}
use Rattle.house_doors.specs.Links.{ServedAllBy, ServedSomeBy, InDoubtBy, HadEither, DoubtsEither}
use Rattle.door_commands.specs.Open.{OpensLinksOf}
use Rattle.world_model.specs.Worlds.{World, Event, Enter, Read, HasBytes, with_house, Plays}
use Rattle.world_laws.specs.Links.{AreMoments, TellsMoments, IsHeard, LinkIsPlayed, FrontIsPlayed, IsOfServing, LeadsBy}
use Rattle.world_laws.specs.Runs.{HasServed, IsRunBy, RunsBy}

-- ---- commands

-- an entry of an operator's command, of this time; secrets that it puts into stock are bytes
pub record IsOperators (t : ℕ) (e : Entry) : Type 0 where
  pub command : IsCommand e
  pub at : moment_of e ≡ t
  pub secrets : HasBytes e

-- A command leaves the history as it was, or with one such entry more, and then it is told as done.
abbrev pub AddsOperators : ℕ → History → Status → History → Type 0
AddsOperators t h status g = (g ≡ h) ⊎ ((e : Entry) × (line : List ℕ) × (status ≡ statuses.Did line) × (g ≡ h ++ e ∷ []) × IsOperators t e)

-- so does all that is told, however it ends
abbrev pub AllAddOperators : Endings → Type 0
AllAddOperators ends = (told : List ℕ) (h : History) (t : ℕ) (status : Status) (g : History) → ends told h t status g → AddsOperators t h status g

-- and where the disk failed, the entry in doubt is one
abbrev pub DoubtsOperators : Doubts → Type 0
DoubtsOperators doubts = (told : List ℕ) (h : History) (t : ℕ) (e : Entry) → doubts told h t e → IsOperators t e

-- ---- a link

-- the history, perhaps with more behind it, is that of a book of a site
pub record StandsInBook (h : History) : Type 0 where
  pub more : History
  pub bytes : List ℕ
  pub stands : Encodes (h ++ more) bytes
  pub lawful : IsLawful full (h ++ more)

-- What house i did by a command that was told at one reading of its clock: its entry was entered, at the house time that the reading
-- raised; or none was, and the house read its clock.
abbrev pub IsCommandOf : ℕ → State → ℕ → State → Event → Type 0
IsCommandOf i s reading t event =
    ((t ≡ raised s reading) × (event ≡ Read i reading))
    ⊎ ((e : Entry) × (t ≡ entered (raised s reading) e) × IsOperators (raised s reading).time e × (event ≡ Enter i (payload e)))

-- one step at one reading is one such event; where receiving failed there is none
abbrev pub AreCommandsOf : ℕ → State → List (Did State) → List ℕ → List Event → Type 0
AreCommandsOf i s [] [] [] = Unit {0}
AreCommandsOf i s (d ∷ []) (reading ∷ []) (event ∷ []) = IsCommandOf i s reading d.after event
AreCommandsOf i s _ _ _ = ⊥

-- What house i did on one link of its operator's, from state s, is such an event, or none. It is said where the reading is a moment, and
-- the history that stands then is one of a book.
pub record CommandIsPlayed (w : World) (i : ℕ) (s : State) (steps : List (Did State)) (before after : LinkView) : Type 0 where
  pub got : List ℕ
  pub readings : List ℕ
  pub events : List Event
  pub heard : IsHeard got steps before after
  pub read : AreRead OfLinks readings before.readings after.readings
  pub commands : AreCommandsOf i s steps readings events
  pub moments : TellsMoments after → AreMoments readings
  pub plays : AreMoments readings → StandsInBook (state_after s steps).history → Plays full w events (with_house w i (state_after s steps))

-- a customer's link is a schedule as ever, one of the operator's is his command
abbrev pub EitherIsPlayed : World → ℕ → State → List (Did State) → LinkView → LinkView → Type 0
EitherIsPlayed w i s steps taken after = (IsWhose taken false × LinkIsPlayed full w i s steps taken after) ⊎ (IsWhose taken true × CommandIsPlayed w i s steps taken after)

-- what becomes of each link at a house with a door is so
abbrev pub EitherIsSchedule : Endings → Type 0
EitherIsSchedule ends = (w : World) (i : ℕ) (s : State) (steps : List (Did State)) (taken after : LinkView)
    → slice_get w.houses i ≡ Some s → HadEither IsWhose ends MOST_TOLD steps s taken after → EitherIsPlayed w i s steps taken after

-- ---- links one after another

-- So many links were served, one after another; of each it is so from each world where the house stands as it does then.
abbrev pub OpenLinksArePlayed : ℕ → ℕ → State → List (Did State) → LinkView → LinkView → Type 0
OpenLinksArePlayed i zero s steps before after = (steps ≡ []) × (after ≡ before)
OpenLinksArePlayed i (suc n) s steps before after =
    (front : List (Did State)) × (last : List (Did State)) × (between : LinkView) × (steps ≡ front ++ last) × OpenLinksArePlayed i n s front before between
    × (TellsMoments after → TellsMoments between)
    × ((w : World) → slice_get w.houses i ≡ Some (state_after s front) → EitherIsPlayed w i (state_after s front) last (next_taken between) after)

-- the links up to a moment, after which no more came, or none could be taken
pub record OpenArePlayed (i n : ℕ) (s : State) (steps : List (Did State)) (before after : LinkView) : Type 0 where
  pub between : LinkView
  pub played : OpenLinksArePlayed i n s steps before between
  pub same : after.sessions ≡ between.sessions
  pub tells : TellsMoments after → TellsMoments between

-- Of the operator's link on which the disk failed: his command is Enter of the entry in doubt, at the time that one reading of the clock
-- raised, where the history with it is one of a book. So much of what tells of the fault was sent.
pub record DoubtIsPlayed (w : World) (i : ℕ) (s : State) (e : Entry) (said : List ℕ) (before after : LinkView) : Type 0 where
  pub got : List ℕ
  pub reading : ℕ
  pub heard : (after.sessions ≡ (after_send said (after_recv got before)).sessions) ⊎ (after.sessions ≡ (after_send said (after_eof (after_recv got before))).sessions)
  pub read : AreRead OfLinks (reading ∷ []) before.readings after.readings
  pub operators : IsOperators (raised s reading).time e
  pub plays : StandsInBook (s.history ++ e ∷ []) → Plays full w (Enter i (payload e) ∷ []) (with_house w i (entered (raised s reading) e))

-- Of the links up to the one on which the disk failed it is so, and of that one up to the request in doubt; or it is the operator's.
pub record FirstOpenPlayed (i : ℕ) (s : State) (steps : List (Did State)) (e : Entry) (said : List ℕ) (before after : LinkView) : Type 0 where
  pub n : ℕ
  pub front : List (Did State)
  pub last : List (Did State)
  pub between : LinkView
  pub steps_are : steps ≡ front ++ last
  pub played : OpenLinksArePlayed i n s front before between
  pub tells : TellsMoments after → TellsMoments between
  pub here : (w : World) → slice_get w.houses i ≡ Some (state_after s front)
      → (IsWhose (next_taken between) false × FrontIsPlayed full w i (state_after s front) last said (next_taken between) after)
      ⊎ (IsWhose (next_taken between) true × (last ≡ []) × DoubtIsPlayed w i (state_after s front) e said (next_taken between) after)

-- what serving links with a door says: of as many as were asked for, or all that came; where the next one could not be taken; and where
-- the disk failed
pub record OpenLinksPlay (ends : Endings) (doubts : Doubts) : Type 0 where
  pub all : (i links n : ℕ) (s : State) (steps : List (Did State)) (before after : LinkView)
      → ServedAllBy (HadEither IsWhose ends MOST_TOLD) links n steps s before after → OpenArePlayed i n s steps before after
  pub some : (i links : ℕ) (s : State) (steps : List (Did State)) (before after : LinkView)
      → ServedSomeBy (HadEither IsWhose ends MOST_TOLD) links steps s before after → (n : ℕ) × OpenArePlayed i n s steps before after
  pub first : (i links : ℕ) (s : State) (steps : List (Did State)) (before after : LinkView) (e : Entry) (said : List ℕ)
      → InDoubtBy (HadEither IsWhose ends MOST_TOLD) (DoubtsEither IsWhose doubts MOST_TOLD) links steps s before e said after → FirstOpenPlayed i s steps e said before after

-- ---- where they lead

-- an event of serving house i, or an entry of its operator's
abbrev pub IsOfDoor : ℕ → Event → Type 0
IsOfDoor i (Enter house bytes) = house ≡ i
IsOfDoor i event = IsOfServing i event

-- Each first part of these steps whose history is one of a book leads somewhere by such events.
abbrev pub OpenFrontsLead : ℕ → State → List (Did State) → LinkView → Type 0
OpenFrontsLead i s steps after = (done rest : List (Did State)) → steps ≡ done ++ rest → StandsInBook (state_after s done).history → (w : World) → slice_get w.houses i ≡ Some s → TellsMoments after
    → LeadsBy IsOfDoor full w i (state_after s done) after

-- Links of a house with a door, one after another, are one schedule, in which nobody else moves, and so is each first part of their steps.
-- Where the disk failed they are it up to the request or the command in doubt, and with its entry, which the disk may have.
pub record OpenLinksLead (ends : Endings) (doubts : Doubts) : Type 0 where
  pub all : (i links n : ℕ) (s : State) (steps : List (Did State)) (before after : LinkView)
      → ServedAllBy (HadEither IsWhose ends MOST_TOLD) links n steps s before after → OpenFrontsLead i s steps after
  pub some : (i links : ℕ) (s : State) (steps : List (Did State)) (before after : LinkView)
      → ServedSomeBy (HadEither IsWhose ends MOST_TOLD) links steps s before after → OpenFrontsLead i s steps after
  pub first : (i links : ℕ) (s : State) (steps : List (Did State)) (before after : LinkView) (e : Entry) (said : List ℕ)
      → InDoubtBy (HadEither IsWhose ends MOST_TOLD) (DoubtsEither IsWhose doubts MOST_TOLD) links steps s before e said after → StandsInBook (state_after s steps).history
      → (w : World) → slice_get w.houses i ≡ Some s → TellsMoments after → LeadsBy IsOfDoor full w i (state_after s steps) after
  pub doubt : (i links : ℕ) (s : State) (steps : List (Did State)) (before after : LinkView) (e : Entry) (said : List ℕ)
      → InDoubtBy (HadEither IsWhose ends MOST_TOLD) (DoubtsEither IsWhose doubts MOST_TOLD) links steps s before e said after → StandsInBook ((state_after s steps).history ++ e ∷ [])
      → (w : World) → slice_get w.houses i ≡ Some s → TellsMoments after → (t : State) × (t.history ≡ (state_after s steps).history ++ e ∷ []) × LeadsBy IsOfDoor full w i t after

-- ---- a run

-- What serving a book with a door says (`OpensLinksOf`), from each world where house i has the history of the book: a new run, and one
-- schedule of such events; the disk encodes what the house has then, and each crash meanwhile leaves what such a run leaves, or what one
-- before could.
abbrev pub OpeningIsARun : {O : Type 0} → (O → LinkView) → (O → DiskView) → Endings → Doubts → Type 0
OpeningIsARun {O} link disk ends doubts = (kind links : ℕ) (bytes : List ℕ) (a : O) (status : Status) (b : O)
    → OpensLinksOf link disk (HadEither IsWhose ends MOST_TOLD) (DoubtsEither IsWhose doubts MOST_TOLD) kind links bytes a status b → HasServed status → TellsMoments (link b)
    → (w : World) (i : ℕ) (t : State) → slice_get w.houses i ≡ Some t → Encodes t.history bytes → RunsBy IsOfDoor link disk w i a b

-- Where the disk failed under an entry (4), each image that a crash may leave then is that of such a run, with the entry or without.
abbrev pub OpeningHalts : {O : Type 0} → (O → LinkView) → (O → DiskView) → Endings → Doubts → Type 0
OpeningHalts {O} link disk ends doubts = (kind links : ℕ) (bytes : List ℕ) (a : O) (b : O)
    → OpensLinksOf link disk (HadEither IsWhose ends MOST_TOLD) (DoubtsEither IsWhose doubts MOST_TOLD) kind links bytes a statuses.DiskFault b → TellsMoments (link b)
    → (w : World) (i : ℕ) (t : State) → slice_get w.houses i ≡ Some t → Encodes t.history bytes
    → (image : List ℕ) → (disk b).leaves image → (g : History) × IsRunBy IsOfDoor w i g (link b) × Encodes g image
