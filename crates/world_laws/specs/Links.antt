-- A link that a house served, as events of a schedule.
use Rattle.std.specs.Prelude.{◌≡◌, ◌⊎◌, ℕ, zero, suc, ◌+◌, ◌<◌, ◌^◌, List, [], ◌∷◌, ◌++◌, length, map, Some, None, slice_get, slice_set}
use Rattle.std.specs.List.{AllByRecursion}
use Rattle.mc_outside.specs.Bytes.{BeginsWith}
use Rattle.mc_outside.specs.LinkView.{LinkView, Session, next_taken, after_recv, after_send, after_eof}
use Rattle.mc_requests.specs.declared.limits.Limits.{Limits}
use Rattle.mc_records.specs.Entry.{Entry}
use Rattle.millicent_http.specs.declared.clock.Clock.TheVariants.{OfLinks}
use Rattle.millicent_http.specs.Items.{Item, Heads}
use Rattle.millicent_http.specs.Steps.{Did, sent_of, state_after, Run}
use Rattle.millicent_http.specs.Courses.{AreRead, HadLink, ServedAll, ServedSome}
use Rattle.house_core.specs.Session.{State, Step}
use Rattle.house_serving.specs.InDoubt.{InDoubtLinks}
use Rattle.world_model.specs.Deliveries.{NoneWants}
use Rattle.world_model.specs.Worlds.{World, Message, Event, Forge, Tell, Deliver, Read, Plays}

-- ---- the events

-- each item alone stands in a text, and these texts follow one another at the front of the bytes
abbrev pub AreTexts : List ℕ → List Item → List (List ℕ) → Type 0
AreTexts bytes [] [] = Unit {0}
AreTexts bytes (item ∷ items) (text ∷ texts) = Heads text (item ∷ []) × ((rest : List ℕ) × (bytes ≡ text ++ rest) × AreTexts rest items texts)
AreTexts bytes _ _ = ⊥

-- The text of each item is sent, whoever sends it, and reaches house i at the item's reading; so many messages were sent
-- before.
abbrev pub link_events : ℕ → ℕ → List (List ℕ) → List ℕ → List Event
link_events i m (text ∷ texts) (reading ∷ readings) = Forge text ∷ Deliver m i reading ∷ link_events i (m + 1) texts readings
link_events i m _ _ = []

abbrev pub sent_by_none : List ℕ → Message
sent_by_none text = record { bytes = text; sender = None }

-- what these events leave: the house is in this state, the texts were sent, and these are the replies
abbrev pub after_link : World → ℕ → State → List (List ℕ) → List (List ℕ) → World
after_link w i t texts replies =
    record w { houses = slice_set w.houses i t; messages = w.messages ++ map sent_by_none texts; replies = w.replies ++ replies }

abbrev pub replies_of : List (Did State) → List (List ℕ)
replies_of steps = map (λ d. d.sent) steps

-- ---- what serving is

-- each reply was sent, of the last one perhaps a first part
abbrev pub AreSent : List (Did State) → List (Did State) → Type 0
AreSent [] [] = Unit {0}
AreSent (d ∷ ds) (e ∷ es) = BeginsWith d.sent e.sent × ((ds ≡ [] → ⊥) → d.sent ≡ e.sent) × (d.after ≡ e.after) × AreSent ds es
AreSent _ _ = ⊥

-- On the link that stood these bytes were received, and it was sent what these steps sent. It may have been read to its
-- end. It is said where links are told.
abbrev pub IsHeard : List ℕ → List (Did State) → LinkView → LinkView → Type 0
IsHeard got steps before after =
    (after.sessions ≡ (after_send (sent_of steps) (after_recv got before)).sessions)
    ⊎ (after.sessions ≡ (after_send (sent_of steps) (after_eof (after_recv got before))).sessions)

abbrev pub AreMoments : List ℕ → Type 0
AreMoments readings = AllByRecursion (λ reading. reading < 2 ^ 35) readings

-- a clock tells its readings, and they are moments
abbrev pub TellsMoments : LinkView → Type 0
TellsMoments v = (readings : List ℕ) × (v.readings ≡ Some readings) × AreMoments readings

-- These steps of house i on one link, from state s, are a schedule from this world: each item on the link is a message of
-- its own, and reaches the house at its own reading. `whole` are the steps with their whole replies. Readings are moments,
-- and memory that was refused to a request that would be taken is no part of a schedule.
pub record LinkIsPlayed (limits : Limits) (w : World) (i : ℕ) (s : State) (steps : List (Did State)) (before after : LinkView) : Type 0 where
  pub got : List ℕ
  pub items : List Item
  pub texts : List (List ℕ)
  pub readings : List ℕ
  pub whole : List (Did State)
  pub heard : IsHeard got steps before after
  pub of_bytes : AreTexts got items texts
  pub read : AreRead OfLinks readings before.readings after.readings
  pub ran : Run (Step limits) s items readings whole
  pub sent : AreSent steps whole
  pub moments : TellsMoments after → AreMoments readings
  pub plays : AreMoments readings → NoneWants limits s items readings whole
      → Plays limits w (link_events i (length w.messages) texts readings) (after_link w i (state_after s steps) texts (replies_of whole))

-- a text is a part of some bytes
abbrev pub IsPartOf : List ℕ → List ℕ → Type 0
IsPartOf bytes text = (front : List ℕ) × (back : List ℕ) × (bytes ≡ front ++ (text ++ back))

-- a text is a part of what was received on one of some links
abbrev pub IsReceivedOn : List Session → List ℕ → Type 0
IsReceivedOn ss text = (k : ℕ) × (s : Session) × (slice_get ss k ≡ Some s) × IsPartOf s.received text

-- where links are told, each of these texts is
abbrev pub AreReceived : List (List ℕ) → LinkView → Type 0
AreReceived texts v = (ss : List Session) → v.sessions ≡ Some ss → AllByRecursion (IsReceivedOn ss) texts

-- an event of serving house i: somebody sends a request or a reply, one reaches the house, or the house reads its clock
abbrev pub IsOfServing : ℕ → Event → Type 0
IsOfServing i (Forge bytes) = Unit {0}
IsOfServing i (Tell bytes) = Unit {0}
IsOfServing i (Deliver m house reading) = house ≡ i
IsOfServing i (Read house reading) = house ≡ i
IsOfServing i _ = ⊥

-- Events of some kinds at house i lead from a world to one that has the house in this state, and in which no other house and no wallet is
-- another. The messages that they add are texts that were received on these links.
pub record LeadsBy (Is : ℕ → Event → Type 0) (limits : Limits) (w : World) (i : ℕ) (t : State) (links : LinkView) : Type 0 where
  pub events : List Event
  pub texts : List (List ℕ)
  pub replies : List (List ℕ)
  pub plays : Plays limits w events (after_link w i t texts replies)
  pub received : AreReceived texts links
  pub kinds : AllByRecursion (Is i) events

-- and events of serving
abbrev pub Leads : Limits → World → ℕ → State → LinkView → Type 0
Leads limits w i t links = LeadsBy IsOfServing limits w i t links

-- So do all links that were served, one after another, whatever memory was refused meanwhile.
abbrev pub AllLead : Type 0
AllLead = (limits : Limits) (i links n : ℕ) (s : State) (steps : List (Did State)) (before after : LinkView)
    → ServedAll (Step limits) OfLinks links n steps s before after → (w : World) → slice_get w.houses i ≡ Some s → TellsMoments after → Leads limits w i (state_after s steps) after

abbrev pub SomeLead : Type 0
SomeLead = (limits : Limits) (i links : ℕ) (s : State) (steps : List (Did State)) (before after : LinkView)
    → ServedSome (Step limits) OfLinks links steps s before after → (w : World) → slice_get w.houses i ≡ Some s → TellsMoments after → Leads limits w i (state_after s steps) after

-- and where the disk failed, up to the request in doubt
abbrev pub FirstLead : Type 0
FirstLead = (limits : Limits) (i links : ℕ) (s : State) (steps : List (Did State)) (before after : LinkView) (e : Entry) (said : List ℕ)
    → InDoubtLinks limits links steps s before e said after → (w : World) → slice_get w.houses i ≡ Some s → TellsMoments after → Leads limits w i (state_after s steps) after

-- and with that request and its entry, which the disk may have
abbrev pub DoubtLeads : Type 0
DoubtLeads = (limits : Limits) (i links : ℕ) (s : State) (steps : List (Did State)) (before after : LinkView) (e : Entry) (said : List ℕ)
    → InDoubtLinks limits links steps s before e said after → (w : World) → slice_get w.houses i ≡ Some s → TellsMoments after
    → (t : State) × (t.history ≡ (state_after s steps).history ++ e ∷ []) × Leads limits w i t after

-- And so does each first part of the steps, which is what a crash leaves of them.
abbrev pub FrontsLead : Limits → ℕ → State → List (Did State) → LinkView → Type 0
FrontsLead limits i s steps after = (done rest : List (Did State)) → steps ≡ done ++ rest → (w : World) → slice_get w.houses i ≡ Some s → TellsMoments after → Leads limits w i (state_after s done) after

abbrev pub AllFrontsLead : Type 0
AllFrontsLead = (limits : Limits) (i links n : ℕ) (s : State) (steps : List (Did State)) (before after : LinkView)
    → ServedAll (Step limits) OfLinks links n steps s before after → FrontsLead limits i s steps after

abbrev pub SomeFrontsLead : Type 0
SomeFrontsLead = (limits : Limits) (i links : ℕ) (s : State) (steps : List (Did State)) (before after : LinkView)
    → ServedSome (Step limits) OfLinks links steps s before after → FrontsLead limits i s steps after

-- what becomes of a link at a house is a schedule
abbrev pub LinkIsSchedule : Type 0
LinkIsSchedule = (limits : Limits) (w : World) (i : ℕ) (s : State) (steps : List (Did State)) (before after : LinkView)
    → slice_get w.houses i ≡ Some s → HadLink (Step limits) OfLinks steps s before after → LinkIsPlayed limits w i s steps before after

-- ---- links one after another

-- So many links were served, one after another; of each it is so from each world where the house stands as it does then.
abbrev pub LinksArePlayed : Limits → ℕ → ℕ → State → List (Did State) → LinkView → LinkView → Type 0
LinksArePlayed limits i zero s steps before after = (steps ≡ []) × (after ≡ before)
LinksArePlayed limits i (suc n) s steps before after =
    (front : List (Did State)) × (last : List (Did State)) × (between : LinkView) × (steps ≡ front ++ last) × LinksArePlayed limits i n s front before between
    × (TellsMoments after → TellsMoments between)
    × ((w : World) → slice_get w.houses i ≡ Some (state_after s front) → LinkIsPlayed limits w i (state_after s front) last (next_taken between) after)

-- the links up to a moment, after which no more came, or none could be taken
pub record ArePlayed (limits : Limits) (i n : ℕ) (s : State) (steps : List (Did State)) (before after : LinkView) : Type 0 where
  pub between : LinkView
  pub played : LinksArePlayed limits i n s steps before between
  pub same : after.sessions ≡ between.sessions
  pub tells : TellsMoments after → TellsMoments between

-- what serving links says where as many were served as were asked for, or all that came
abbrev pub AllArePlayed : Type 0
AllArePlayed = (limits : Limits) (i links n : ℕ) (s : State) (steps : List (Did State)) (before after : LinkView)
    → ServedAll (Step limits) OfLinks links n steps s before after → ArePlayed limits i n s steps before after

-- and where the next one could not be taken
abbrev pub SomeArePlayed : Type 0
SomeArePlayed = (limits : Limits) (i links : ℕ) (s : State) (steps : List (Did State)) (before after : LinkView)
    → ServedSome (Step limits) OfLinks links steps s before after → (n : ℕ) × ArePlayed limits i n s steps before after

-- Of the link on which the disk failed, the items before the request in doubt are messages of their own as well. So much of
-- the refusal that told of it was sent.
pub record FrontIsPlayed (limits : Limits) (w : World) (i : ℕ) (s : State) (steps : List (Did State)) (said : List ℕ) (before after : LinkView) : Type 0 where
  pub got : List ℕ
  pub items : List Item
  pub texts : List (List ℕ)
  pub readings : List ℕ
  pub heard : after.sessions ≡ (after_send said (after_send (sent_of steps) (after_recv got before))).sessions
  pub of_bytes : AreTexts got items texts
  pub ran : Run (Step limits) s items readings steps
  pub moments : TellsMoments after → AreMoments readings
  pub plays : AreMoments readings → NoneWants limits s items readings steps
      → Plays limits w (link_events i (length w.messages) texts readings) (after_link w i (state_after s steps) texts (replies_of steps))

-- and of the links up to the one on which the disk failed
pub record FirstPlayed (limits : Limits) (i : ℕ) (s : State) (steps : List (Did State)) (said : List ℕ) (before after : LinkView) : Type 0 where
  pub n : ℕ
  pub front : List (Did State)
  pub last : List (Did State)
  pub between : LinkView
  pub steps_are : steps ≡ front ++ last
  pub played : LinksArePlayed limits i n s front before between
  pub tells : TellsMoments after → TellsMoments between
  pub here : (w : World) → slice_get w.houses i ≡ Some (state_after s front) → FrontIsPlayed limits w i (state_after s front) last said (next_taken between) after

abbrev pub FirstArePlayed : Type 0
FirstArePlayed = (limits : Limits) (i links : ℕ) (s : State) (steps : List (Did State)) (before after : LinkView) (e : Entry) (said : List ℕ)
    → InDoubtLinks limits links steps s before e said after → FirstPlayed limits i s steps said before after
