-- Links of a house with a door for its operator, as a schedule.
use Rattle.std.proofs.Common.{◌≡◌, ◌⊎◌, inl, inr, ℕ, zero, suc, ◌<◌, ◌^◌, max, true, false, List, [], ◌∷◌, ◌++◌, Option, Some, refl, sym, ap, subst, ◌∙◌, append-nil, append_assoc, arith, slice_get}
use Rattle.std.specs.Prelude.{slice_set}
use Rattle.std.specs.List.{AllByRecursion}
use Rattle.mc_outside.specs.DiskView.{DiskView}
use Rattle.mc_outside.specs.LinkView.{LinkView, IsWhose, next_taken, after_recv, after_send, after_eof}
use Rattle.mc_outside.proofs.Sessions.{sent_none}
use Rattle.mc_records.specs.Entry.{Entry, moment_of, payload}
use Rattle.ledger_model.specs.Histories.{History}
use Rattle.ledger_model.specs.Houses.{site_kind}
use Rattle.scrip_journal.specs.Layout.{Encodes}
use Rattle.scrip_journal.proofs.Unique.{one_history}
use Rattle.command_status.specs.declared.status.Status.TheVariants as statuses
use Rattle.millicent_http.specs.declared.clock.Clock.TheVariants.{OfLinks}
use Rattle.millicent_http.specs.Inputs.{Receives}
use Rattle.millicent_http.specs.Items.{Item}
use Rattle.millicent_http.specs.Steps.{Did, sent_of, state_after, Run}
use Rattle.millicent_http.specs.Courses.{AreRead, HadLink, with_readings}
use Rattle.millicent_http.proofs.StepLemmas.{state_after-append}
use Rattle.house_core.specs.Session.{State, raised, entered, Step}
use Rattle.house_serving.specs.InDoubt.{InDoubtLink}
use Rattle.operator_command.specs.Operations.{full}
use Rattle.site_commands.specs.Serving.{EncodesLawful}
use Rattle.house_doors.specs.declared.command.TheConstants.{MOST_TOLD}
use Rattle.house_doors.specs.Commands.{Endings, Doubts, DoorStep, CommandServed, CommandLost, HadCommand, DoubtsCommand}
use Rattle.house_doors.specs.Links.{HadLinksBy, ServedAllBy, ServedSomeBy, InDoubtBy, HadEither, DoubtsEither}
use Rattle.world_model.specs.Worlds.{World, Message, Event, Enter, Read, opens, with_house, Happens, Plays}
use Rattle.world_model.proofs.Lists.{set_here}
use Rattle.world_laws.specs.Links.{AreMoments, TellsMoments, IsHeard, FrontIsPlayed, IsOfServing, LeadsBy, Leads, after_link}
use Rattle.world_laws.specs.Doors.{IsOperators, AllAddOperators, DoubtsOperators, StandsInBook, IsCommandOf, AreCommandsOf, CommandIsPlayed, EitherIsSchedule, OpenLinksArePlayed, OpenArePlayed, DoubtIsPlayed, FirstOpenPlayed, OpenLinksPlay, IsOfDoor, OpenFrontsLead, OpenLinksLead, OpeningIsARun, OpeningHalts}
use Rattle.world_laws.proofs.BookLemmas.{entry_of_book, front_of_book, whole_book, lawful_before}
use Rattle.world_laws.proofs.Delivering.{Grow, set_same, moment_is, leads_none, leads_on, leads_from, leads_same, leads_weaker}
use Rattle.world_laws.proofs.LinkLemmas.{these_moments, moments_read, same_moments, sessions_of, sends_sessions, link_is_schedule, tells_last, grows_by, moments_before, link_front, grows_after, parts, doubt_tells, doubt_grows, front_is_played, front_ended, front_leads, doubt_link}
use Rattle.world_laws.proofs.RunLemmas.{AddsOne, Ones, step_one, link_one, ones_on, ones_none, opened_as, run_of, served_run}

-- ---- a command

history_in : State → History
history_in s = s.history

-- what a step at a door is to the house
step_is : (ends : Endings) (i : ℕ) (s t : State) (reading : ℕ) (told reply : List ℕ) → AllAddOperators ends → DoorStep ends s reading told reply t → (event : Event) × IsCommandOf i s reading t event
step_is ends i s t reading told reply so step =
    elim (so told s.history (raised s reading).time step.0 t.history step.1) [
      | inl none ↦ (Read i reading, inl (made t (raised s reading) none step.2, refl))
      | inr one ↦ (Enter i (payload one.0), inr (one.0, made t (entered (raised s reading) one.0) one.3 step.2, one.4, refl))
    ]
  where
    build : History → ℕ → State
    build h n = record { history = h; time = n }

    made : (a b : State) → a.history ≡ b.history → a.time ≡ b.time → a ≡ b
    made a b same at = ap (λ (h : History). build h a.time) same ∙ ap (λ (n : ℕ). build b.history n) at

-- an entry at the raised time is entered
enter_plays : (w : World) (i : ℕ) (s t : State) (reading : ℕ) (e : Entry) → slice_get w.houses i ≡ Some s → t ≡ entered (raised s reading) e → IsOperators (raised s reading).time e → StandsInBook t.history
    → Happens full w (Enter i (payload e)) (with_house w i t)
enter_plays w i s t reading e house is operators book =
    let room = entry_of_book s.history t.history e (ap history_of is) book in
    let at : moment_of e ≡ max s.time reading = operators.at in
    let same : max s.time reading ≡ max s.time (moment_of e) = omega (arith, at) in
    inl (record {
      s = s;
      e = e;
      house = house;
      fits = room.fits;
      secrets = operators.secrets;
      spelled = refl;
      command = operators.command;
      follows = room.follows;
      room = room.room;
      after = ap (with_house w i) (is ∙ ap build same);
    })
  where
    history_of : State → History
    history_of u = u.history

    build : ℕ → State
    build n = record { history = s.history ++ e ∷ []; time = n }

read_plays : (w : World) (i : ℕ) (s t : State) (reading : ℕ) → slice_get w.houses i ≡ Some s → reading < 2 ^ 35 → t ≡ raised s reading → Happens full w (Read i reading) (with_house w i t)
read_plays w i s t reading house moment is =
    inl (record { s = s; house = house; after = ap (with_house w i) (is ∙ ap (λ (n : ℕ). raised s n) (sym (moment_is reading moment))) })

command_plays : (w : World) (i : ℕ) (s t : State) (reading : ℕ) (event : Event) → slice_get w.houses i ≡ Some s → reading < 2 ^ 35 → StandsInBook t.history → IsCommandOf i s reading t event → Happens full w event (with_house w i t)
command_plays w i s t reading event house moment book (inl none) = subst (λ (x : Event). Happens full w x (with_house w i t)) (sym none.1) (read_plays w i s t reading house moment none.0)
command_plays w i s t reading event house moment book (inr one) = subst (λ (x : Event). Happens full w x (with_house w i t)) (sym one.3) (enter_plays w i s t reading one.0 house one.1 one.2 book)

commands_play : (w : World) (i : ℕ) (s : State) (steps : List (Did State)) (readings : List ℕ) (events : List Event) → slice_get w.houses i ≡ Some s → AreCommandsOf i s steps readings events → AreMoments readings
    → StandsInBook (state_after s steps).history → Plays full w events (with_house w i (state_after s steps))
commands_play w i s [] [] [] house are moments book = ap build (set_same w.houses i s house)
  where
    build : List State → World
    build hs = record w { houses = hs }
commands_play w i s (d ∷ []) (reading ∷ []) (event ∷ []) house are moments book = (with_house w i d.after, command_plays w i s d.after reading event house moments.0 book are, refl)
commands_play w i s steps readings events house are moments book = absurd are

-- ---- its link

-- sending nothing leaves the sessions as they were
heard_alone : (got : List ℕ) (before : LinkView) → (after_recv got before).sessions ≡ (after_send [] (after_recv got before)).sessions
heard_alone got before = ap sessions_of (sent_none (after_recv got before))

-- what was sent of an answer, where all that was told was received
abbrev HeardSaid : List ℕ → List ℕ → LinkView → LinkView → Type 0
HeardSaid got said before after = (after.sessions ≡ (after_send said (after_recv got before)).sessions) ⊎ (after.sessions ≡ (after_send said (after_eof (after_recv got before))).sessions)

heard_said : (most n : ℕ) (told said : List ℕ) (before read after : LinkView) → Receives most before n told read → after.sessions ≡ (after_send said read).sessions → HeardSaid told said before after
heard_said most n told said before read after (inl full') so = inl (so ∙ ap (λ (v : LinkView). (after_send said v).sessions) full'.1)
heard_said most n told said before read after (inr end) so = inr (so ∙ ap (λ (v : LinkView). (after_send said v).sessions) end.1)

heard_by : (told said : List ℕ) (steps : List (Did State)) (before after : LinkView) → sent_of steps ≡ said → HeardSaid told said before after → IsHeard told steps before after
heard_by told said steps before after is (inl full') = inl (full' ∙ ap (λ (l : List ℕ). (after_send l (after_recv told before)).sessions) (sym is))
heard_by told said steps before after is (inr end) = inr (end ∙ ap (λ (l : List ℕ). (after_send l (after_eof (after_recv told before))).sessions) (sym is))

readings_read : (most n : ℕ) (told : List ℕ) (before read : LinkView) → Receives most before n told read → read.readings ≡ before.readings
readings_read most n told before read (inl full') = ap (λ (v : LinkView). v.readings) full'.1
readings_read most n told before read (inr end) = ap (λ (v : LinkView). v.readings) end.1

served_command : (ends : Endings) (w : World) (i : ℕ) (s : State) (steps : List (Did State)) (before after : LinkView) → AllAddOperators ends → slice_get w.houses i ≡ Some s
    → CommandServed ends MOST_TOLD steps s before after → CommandIsPlayed w i s steps before after
served_command ends w i s steps before after so house c =
    let a = c.answered in
    let x = step_is ends i s c.step.after a.reading c.told a.reply so a.stepped in
    let are : AreCommandsOf i s steps (a.reading ∷ []) (x.0 ∷ []) = subst (λ (ds : List (Did State)). AreCommandsOf i s ds (a.reading ∷ []) (x.0 ∷ [])) (sym c.one) x.1 in
    let read : AreRead OfLinks (a.reading ∷ []) before.readings after.readings = subst (λ (rs : Option (List ℕ)). AreRead OfLinks (a.reading ∷ []) rs after.readings) (readings_read MOST_TOLD c.n c.told before c.read c.heard) a.read in
    record {
      got = c.told;
      readings = a.reading ∷ [];
      events = x.0 ∷ [];
      heard = heard_by c.told c.step.sent steps before after (ap sent_of c.one ∙ append-nil c.step.sent) (heard_said MOST_TOLD c.n c.told c.step.sent before c.read after c.heard (sends_sessions a.reply c.step.sent (with_readings after.readings c.read) after a.sent));
      read = read;
      commands = are;
      moments = λ tells. these_moments before after (a.reading ∷ []) read tells;
      plays = λ moments book. commands_play w i s steps (a.reading ∷ []) (x.0 ∷ []) house are moments book;
    }

lost_command : (w : World) (i : ℕ) (s : State) (steps : List (Did State)) (before after : LinkView) → slice_get w.houses i ≡ Some s → CommandLost steps before after → CommandIsPlayed w i s steps before after
lost_command w i s steps before after house c =
    let are : AreCommandsOf i s steps [] [] = subst (λ (ds : List (Did State)). AreCommandsOf i s ds [] []) (sym c.none) tt in
    let none : sent_of steps ≡ [] = ap sent_of c.none in
    record {
      got = c.got;
      readings = [];
      events = [];
      heard = inl (ap sessions_of c.fault.same ∙ heard_alone c.got before ∙ ap (λ (l : List ℕ). (after_send l (after_recv c.got before)).sessions) (sym none));
      read = λ rs is. (rs, sym (ap (λ (v : LinkView). v.readings) c.fault.same) ∙ is, sym (append-nil rs));
      commands = are;
      moments = λ tells. tt;
      plays = λ moments book. commands_play w i s steps [] [] house are moments book;
    }

-- the link is ended then
command_ended : (w : World) (i : ℕ) (s : State) (steps : List (Did State)) (before stood after : LinkView) → after ≡ record stood { stands = false } → CommandIsPlayed w i s steps before stood → CommandIsPlayed w i s steps before after
command_ended w i s steps before stood after is p = subst (λ (v : LinkView). CommandIsPlayed w i s steps before v) (sym is) (record {
  got = p.got;
  readings = p.readings;
  events = p.events;
  heard = p.heard;
  read = p.read;
  commands = p.commands;
  moments = p.moments;
  plays = p.plays;
})

command_is_played : (ends : Endings) (w : World) (i : ℕ) (s : State) (steps : List (Did State)) (before after : LinkView) → AllAddOperators ends → slice_get w.houses i ≡ Some s
    → HadCommand ends MOST_TOLD steps s before after → CommandIsPlayed w i s steps before after
command_is_played ends w i s steps before after so house had =
    let there : CommandIsPlayed w i s steps before had.served = elim had.course [
      | inl c ↦ served_command ends w i s steps before had.served so house c
      | inr c ↦ lost_command w i s steps before had.served house c
    ] in
    command_ended w i s steps before had.served after had.ended there

pub either_is_schedule : (ends : Endings) → AllAddOperators ends → EitherIsSchedule ends
either_is_schedule ends so w i s steps taken after house (inl customer) = inl (customer.0, link_is_schedule full w i s steps taken after house customer.1)
either_is_schedule ends so w i s steps taken after house (inr operator) = inr (operator.0, command_is_played ends w i s steps taken after so house operator.1)

-- ---- where it leads

-- events of serving are such of a door
serving_of_door : (i : ℕ) (e : Event) → IsOfServing i e → IsOfDoor i e
serving_of_door i (Enter house bytes) is = absurd is
serving_of_door i e is = is

of_door : (w : World) (i : ℕ) (t : State) (links : LinkView) → Leads full w i t links → LeadsBy IsOfDoor full w i t links
of_door w i t links x = leads_weaker IsOfServing IsOfDoor serving_of_door full w i t links x

command_kind : (i : ℕ) (s t : State) (reading : ℕ) (event : Event) → IsCommandOf i s reading t event → IsOfDoor i event
command_kind i s t reading event (inl none) = subst (IsOfDoor i) (sym none.1) refl
command_kind i s t reading event (inr one) = subst (IsOfDoor i) (sym one.3) refl

command_kinds : (i : ℕ) (s : State) (steps : List (Did State)) (readings : List ℕ) (events : List Event) → AreCommandsOf i s steps readings events → AllByRecursion (IsOfDoor i) events
command_kinds i s [] [] [] are = tt
command_kinds i s (d ∷ []) (reading ∷ []) (event ∷ []) are = (command_kind i s d.after reading event are, tt)
command_kinds i s steps readings events are = absurd are

no_more : (w : World) (i : ℕ) (t : State) → with_house w i t ≡ after_link w i t [] []
no_more w i t =
    ap (λ (ms : List Message). build ms w.replies) (sym (append-nil w.messages)) ∙ ap (λ (rs : List (List ℕ)). build (w.messages ++ []) rs) (sym (append-nil w.replies))
  where
    build : List Message → List (List ℕ) → World
    build ms rs = record w { houses = slice_set w.houses i t; messages = ms; replies = rs }

by_events : (w : World) (i : ℕ) (t : State) (events : List Event) (links : LinkView) → Plays full w events (with_house w i t) → AllByRecursion (IsOfDoor i) events → LeadsBy IsOfDoor full w i t links
by_events w i t events links plays kinds =
    record { events = events; texts = []; replies = []; plays = subst (λ (v : World). Plays full w events v) (no_more w i t) plays; received = λ ss is. tt; kinds = kinds }

command_leads : (w : World) (i : ℕ) (s : State) (steps : List (Did State)) (before after : LinkView) → CommandIsPlayed w i s steps before after → TellsMoments after → StandsInBook (state_after s steps).history
    → LeadsBy IsOfDoor full w i (state_after s steps) after
command_leads w i s steps before after p tells book =
    by_events w i (state_after s steps) p.events after (p.plays (p.moments tells) book) (command_kinds i s steps p.readings p.events p.commands)

-- a command has one step at most, so that a first part of its steps is none or all
parted_one : (i : ℕ) (s : State) (steps : List (Did State)) (readings : List ℕ) (events : List Event) → AreCommandsOf i s steps readings events → (done rest : List (Did State)) → steps ≡ done ++ rest → (done ≡ []) ⊎ (steps ≡ done)
parted_one i s steps readings events are [] rest is = inl refl
parted_one i s [] readings events are (c ∷ done) rest is = absurd (let no : [] ≡ c ∷ (done ++ rest) = is in cc)
parted_one i s (d ∷ []) readings events are (c ∷ []) rest is = inr (let same : d ≡ c = cc in ap (λ (x : Did State). x ∷ []) same)
parted_one i s (d ∷ []) readings events are (c ∷ b ∷ done) rest is = absurd (let no : [] ≡ b ∷ (done ++ rest) = cc in cc)
parted_one i s (d ∷ e ∷ steps) readings events are (c ∷ done) rest is = absurd are

command_front : (w : World) (i : ℕ) (s : State) (steps : List (Did State)) (before after : LinkView) → slice_get w.houses i ≡ Some s → CommandIsPlayed w i s steps before after → TellsMoments after
    → (done rest : List (Did State)) → steps ≡ done ++ rest → StandsInBook (state_after s done).history → LeadsBy IsOfDoor full w i (state_after s done) after
command_front w i s steps before after house p tells done rest is book = elim (parted_one i s steps p.readings p.events p.commands done rest is) [
  | inl none ↦ subst (λ (ds : List (Did State)). LeadsBy IsOfDoor full w i (state_after s ds) after) (sym none) (leads_none IsOfDoor full w i s after house)
  | inr all ↦
      let whole : StandsInBook (state_after s steps).history = subst (λ (ds : List (Did State)). StandsInBook (state_after s ds).history) (sym all) book in
      subst (λ (ds : List (Did State)). LeadsBy IsOfDoor full w i (state_after s ds) after) all (command_leads w i s steps before after p tells whole)
]

command_adds : (i : ℕ) (s : State) (reading : ℕ) (t : State) (event : Event) → IsCommandOf i s reading t event → AddsOne s t
unfolding history_in
command_adds i s reading t event (inl none) = inl (ap history_in none.0)
command_adds i s reading t event (inr one) = inr (one.0, ap history_in one.1)

command_ones : (i : ℕ) (s : State) (steps : List (Did State)) (readings : List ℕ) (events : List Event) → AreCommandsOf i s steps readings events → Ones s steps
unfolding Ones
command_ones i s [] readings events are [] d rest is = absurd (let no : [] ≡ d ∷ rest = is in cc)
command_ones i s [] readings events are (c ∷ done) d rest is = absurd (let no : [] ≡ c ∷ (done ++ d ∷ rest) = is in cc)
command_ones i s (x ∷ []) (reading ∷ []) (event ∷ []) are [] d rest is =
    let same : x ≡ d = cc in
    subst (λ (y : Did State). AddsOne s y.after) same (command_adds i s reading x.after event are)
command_ones i s (x ∷ []) readings events are (c ∷ []) d rest is = absurd (let no : [] ≡ d ∷ rest = cc in cc)
command_ones i s (x ∷ []) readings events are (c ∷ b ∷ done) d rest is = absurd (let no : [] ≡ b ∷ (done ++ d ∷ rest) = cc in cc)
command_ones i s steps readings events are done d rest is = absurd are

-- ---- a link, whosever it is

-- a world with a house in this state
one_house : State → World
one_house s = record { houses = s ∷ []; wallets = []; messages = []; replies = [] }

-- what is known of a link at a house with a door, whatever the world
record KnownLink (s : State) (steps : List (Did State)) (between after : LinkView) : Type 0 where
  grows : Grow between after
  tells : TellsMoments after → TellsMoments between
  ones : Ones s steps
  leads : (w : World) (i : ℕ) → slice_get w.houses i ≡ Some s → TellsMoments after → (done rest : List (Did State)) → steps ≡ done ++ rest → StandsInBook (state_after s done).history → LeadsBy IsOfDoor full w i (state_after s done) after

customer_known : (s : State) (steps : List (Did State)) (between after : LinkView) → HadLink (Step full) OfLinks steps s (next_taken between) after → KnownLink s steps between after
customer_known s steps between after had = record {
  grows = grows_after full s steps between after had;
  tells = λ tells. same_moments between (next_taken between) refl (moments_before full s steps (next_taken between) after had tells);
  ones = link_one full s steps (next_taken between) after had;
  leads = λ w i house tells done rest is book. of_door w i (state_after s done) after (link_front full w i s steps between after house (link_is_schedule full w i s steps (next_taken between) after house had) tells done rest is);
}

operator_known : (ends : Endings) (s : State) (steps : List (Did State)) (between after : LinkView) → AllAddOperators ends → HadCommand ends MOST_TOLD steps s (next_taken between) after → KnownLink s steps between after
unfolding one_house
operator_known ends s steps between after so had =
    let p = command_is_played ends (one_house s) 0 s steps (next_taken between) after so refl had in record {
      grows = grows_by between after p.got (tells_last between after p.got steps p.heard);
      tells = λ tells. same_moments between (next_taken between) refl (moments_read (next_taken between) after p.readings p.read tells);
      ones = command_ones 0 s steps p.readings p.events p.commands;
      leads = λ w i house tells done rest is book. command_front w i s steps (next_taken between) after house (command_is_played ends w i s steps (next_taken between) after so house had) tells done rest is book;
    }

either_known : (ends : Endings) (s : State) (steps : List (Did State)) (between after : LinkView) → AllAddOperators ends → HadEither IsWhose ends MOST_TOLD steps s (next_taken between) after → KnownLink s steps between after
either_known ends s steps between after so (inl customer) = customer_known s steps between after customer.1
either_known ends s steps between after so (inr operator) = operator_known ends s steps between after so operator.1

-- ---- links one after another

by_ones : (ends : Endings) (n : ℕ) (s : State) (steps : List (Did State)) (before after : LinkView) → AllAddOperators ends → HadLinksBy (HadEither IsWhose ends MOST_TOLD) n steps s before after → Ones s steps
by_ones ends zero s steps before after so had = ones_none s steps had.0
by_ones ends (suc n) s steps before after so had =
    ones_on s had.0 had.1 steps had.3 (by_ones ends n s had.0 before had.2 so had.4) (either_known ends (state_after s had.0) had.1 had.2 after so had.5).ones

-- entries are added, and none is taken away
ones_grow : (s : State) (steps m rest : List (Did State)) → Ones s steps → steps ≡ m ++ rest → (more : History) × ((state_after s m).history ≡ s.history ++ more)
unfolding Ones
ones_grow s steps [] rest ones is = ([], sym (append-nil s.history))
ones_grow s steps (d ∷ m) rest ones is =
    let later = ones_grow d.after (m ++ rest) m rest (λ done x others at. ones (d ∷ done) x others (is ∙ ap (λ (ds : List (Did State)). d ∷ ds) at)) refl in
    elim (ones [] d (m ++ rest) is) [
      | inl stays ↦ (later.0, later.1 ∙ ap (λ (h : History). h ++ later.0) stays)
      | inr more ↦ (more.0 ∷ later.0, later.1 ∙ ap (λ (h : History). h ++ later.0) more.1 ∙ append_assoc s.history (more.0 ∷ []) later.0)
    ]

-- the history after a first part of some steps stands in the book in which that after all of them does
ones_book : (s : State) (first last : List (Did State)) → Ones (state_after s first) last → StandsInBook (state_after s (first ++ last)).history → StandsInBook (state_after s first).history
ones_book s first last ones book =
    let grown = ones_grow (state_after s first) last last [] ones (sym (append-nil last)) in
    front_of_book (state_after s first).history (state_after s (first ++ last)).history grown.0 (ap (λ (t : State). t.history) (state_after-append s first last) ∙ grown.1) book

-- of some steps with this, each first part
ones_front : (s : State) (first last : List (Did State)) → Ones s (first ++ last) → Ones (state_after s first) last
unfolding Ones
ones_front s first last ones done d rest is =
    subst (λ (t : State). AddsOne t d.after) (state_after-append s first done) (ones (first ++ done) d rest (ap (λ (ds : List (Did State)). first ++ ds) is ∙ sym (append_assoc first done (d ∷ rest))))

fronts_by : (ends : Endings) (i n : ℕ) (s : State) (steps : List (Did State)) (before after : LinkView) → AllAddOperators ends → HadLinksBy (HadEither IsWhose ends MOST_TOLD) n steps s before after → OpenFrontsLead i s steps after
fronts_by ends i zero s steps before after so had [] rest is book w house tells = leads_none IsOfDoor full w i s after house
fronts_by ends i zero s steps before after so had (d ∷ done) rest is book w house tells = absurd (let no : [] ≡ d ∷ (done ++ rest) = sym had.0 ∙ is in cc)
fronts_by ends i (suc n) s steps before after so had done rest is book w house tells =
    let first = had.0 in
    let last = had.1 in
    let between = had.2 in
    let u : State = state_after s first in
    let k = either_known ends u last between after so had.5 in
    elim (parts first last done rest (sym had.3 ∙ is)) [
      | inl a ↦ leads_on IsOfDoor full w i s (state_after s done) (state_after s done) between after k.grows house (fronts_by ends i n s first before between so had.4 done a.0 a.1 book w house (k.tells tells)) (λ x there. leads_none IsOfDoor full x i (state_after s done) after there)
      | inr b ↦
          let m = b.0 in
          let ones : Ones u (m ++ rest) = subst (Ones u) b.2 k.ones in
          let here : StandsInBook (state_after s (first ++ m)).history = subst (λ (ds : List (Did State)). StandsInBook (state_after s ds).history) b.1 book in
          let grown = ones_grow u (m ++ rest) m rest ones refl in
          let earlier : StandsInBook u.history = front_of_book u.history (state_after s (first ++ m)).history grown.0 (ap (λ (t : State). t.history) (state_after-append s first m) ∙ grown.1) here in
          let both = leads_on IsOfDoor full w i s u (state_after u m) between after k.grows house (fronts_by ends i n s first before between so had.4 first [] (sym (append-nil first)) earlier w house (k.tells tells)) (λ x there.
          k.leads x i there tells m rest b.2 (subst (λ (t : State). StandsInBook t.history) (state_after-append s first m) here)) in
          subst (λ (t : State). LeadsBy IsOfDoor full w i t after) (sym (ap (state_after s) b.1 ∙ state_after-append s first m)) both
    ]

all_by : (ends : Endings) (i links n : ℕ) (s : State) (steps : List (Did State)) (before after : LinkView) → AllAddOperators ends → ServedAllBy (HadEither IsWhose ends MOST_TOLD) links n steps s before after → OpenFrontsLead i s steps after
all_by ends i links n s steps before after so all done rest is book w house tells = elim all [
  | inl a ↦ fronts_by ends i n s steps before after so a.1 done rest is book w house tells
  | inr b ↦ leads_same IsOfDoor full w i (state_after s done) b.1.0 after (ap sessions_of b.1.2)
      (fronts_by ends i n s steps before b.1.0 so b.1.1 done rest is book w house (same_moments b.1.0 after (ap (λ (v : LinkView). v.readings) b.1.2) tells))
]

some_by : (ends : Endings) (i links : ℕ) (s : State) (steps : List (Did State)) (before after : LinkView) → AllAddOperators ends → ServedSomeBy (HadEither IsWhose ends MOST_TOLD) links steps s before after → OpenFrontsLead i s steps after
some_by ends i links s steps before after so x done rest is book w house tells =
    leads_same IsOfDoor full w i (state_after s done) x.between after (ap sessions_of x.fault.same)
    (fronts_by ends i x.n s steps before x.between so x.links_had done rest is book w house (same_moments x.between after (ap (λ (v : LinkView). v.readings) x.fault.same) tells))

-- ---- the link on which the disk failed

run_grows : (s : State) (items : List Item) (readings : List ℕ) (steps : List (Did State)) → Run (Step full) s items readings steps → (more : History) × ((state_after s steps).history ≡ s.history ++ more)
run_grows s [] [] [] ran = ([], sym (append-nil s.history))
run_grows s [] [] (d ∷ ds) ran = absurd ran
run_grows s [] (r ∷ rs) ds ran = absurd ran
run_grows s (item ∷ items) [] ds ran = absurd ran
run_grows s (item ∷ items) (r ∷ rs) [] ran = absurd ran
run_grows s (item ∷ items) (r ∷ rs) (d ∷ ds) ran =
    let later = run_grows d.after items rs ds ran.1 in
    elim (step_one full s r item d.sent d.after ran.0) [
      | inl stays ↦ (later.0, later.1 ∙ ap (λ (h : History). h ++ later.0) stays)
      | inr more ↦ (more.0 ∷ later.0, later.1 ∙ ap (λ (h : History). h ++ later.0) more.1 ∙ append_assoc s.history (more.0 ∷ []) later.0)
    ]

-- what is known of the link on which the disk failed, from a state on, whatever the world
record KnownDoubt (s : State) (steps : List (Did State)) (between after : LinkView) (e : Entry) : Type 0 where
  grows : Grow between after
  tells : TellsMoments after → TellsMoments between
  added : (more : History) × ((state_after s steps).history ≡ s.history ++ more)
  leads : (w : World) (i : ℕ) → slice_get w.houses i ≡ Some s → TellsMoments after → LeadsBy IsOfDoor full w i (state_after s steps) after
  with_it : (w : World) (i : ℕ) → slice_get w.houses i ≡ Some s → TellsMoments after → StandsInBook ((state_after s steps).history ++ e ∷ [])
      → (t : State) × (t.history ≡ (state_after s steps).history ++ e ∷ []) × LeadsBy IsOfDoor full w i t after

customer_doubt : (s : State) (steps : List (Did State)) (between stopped after : LinkView) (e : Entry) (said : List ℕ) → InDoubtLink full steps s (next_taken between) e said stopped → after ≡ record stopped { stands = false } → KnownDoubt s steps between after e
customer_doubt s steps between stopped after e said l ended' = record {
  grows = doubt_grows full s steps between stopped after e said l ended';
  tells = λ tells. doubt_tells full s steps between stopped after e said l ended' tells;
  added = run_grows s l.front l.replied.readings steps l.replied.ran;
  leads = λ w i house tells. of_door w i (state_after s steps) after (front_leads full w i s steps between stopped after e said house l ended' tells);
  with_it = λ w i house tells book. let z = doubt_link full w i s steps between stopped after e said house l ended' tells in (z.0, z.1, of_door w i z.0 after z.2);
}

doubt_played : (doubts : Doubts) (w : World) (i : ℕ) (s : State) (steps : List (Did State)) (before stopped after : LinkView) (e : Entry) (said : List ℕ) → DoubtsOperators doubts → slice_get w.houses i ≡ Some s
    → DoubtsCommand doubts MOST_TOLD steps s before e said stopped → after ≡ record stopped { stands = false } → DoubtIsPlayed w i s e said before after
doubt_played doubts w i s steps before stopped after e said so house l ended' =
    let d = l.in_doubt in
    let is : IsOperators (raised s d.reading).time e = so l.told s.history (raised s d.reading).time e d.may in
    let read : AreRead OfLinks (d.reading ∷ []) before.readings stopped.readings =
    subst (λ (rs : Option (List ℕ)). AreRead OfLinks (d.reading ∷ []) rs stopped.readings) (readings_read MOST_TOLD l.n l.told before l.read l.heard) d.read in
    record {
      got = l.told;
      reading = d.reading;
      heard = heard_said MOST_TOLD l.n l.told said before l.read after l.heard (ap sessions_of ended' ∙ sends_sessions _ said (with_readings stopped.readings l.read) stopped d.sent);
      read = subst (λ (rs : Option (List ℕ)). AreRead OfLinks (d.reading ∷ []) before.readings rs) (sym (ap (λ (v : LinkView). v.readings) ended')) read;
      operators = is;
      plays = λ book. (with_house w i (entered (raised s d.reading) e), enter_plays w i s (entered (raised s d.reading) e) d.reading e house refl is book, refl);
    }

operator_doubt : (doubts : Doubts) (s : State) (steps : List (Did State)) (between stopped after : LinkView) (e : Entry) (said : List ℕ) → DoubtsOperators doubts → DoubtsCommand doubts MOST_TOLD steps s (next_taken between) e said stopped
    → after ≡ record stopped { stands = false } → KnownDoubt s steps between after e
unfolding one_house
operator_doubt doubts s steps between stopped after e said so l ended' =
    let p = doubt_played doubts (one_house s) 0 s steps (next_taken between) stopped after e said so refl l ended' in
    let one : List (Did State) = record { sent = said; after = s } ∷ [] in
    let heard : IsHeard p.got one (next_taken between) after = heard_by p.got said one (next_taken between) after (append-nil said) p.heard in
    let stays : state_after s steps ≡ s = ap (state_after s) l.none in
    let same : (state_after s steps).history ≡ s.history = ap (λ (u : State). u.history) stays in
    record {
      grows = grows_by between after p.got (tells_last between after p.got one heard);
      tells = λ tells. same_moments between (next_taken between) refl (moments_read (next_taken between) after (p.reading ∷ []) p.read tells);
      added = ([], same ∙ sym (append-nil s.history));
      leads = λ w i house tells. subst (λ (u : State). LeadsBy IsOfDoor full w i u after) (sym stays) (leads_none IsOfDoor full w i s after house);
      with_it = λ w i house tells book.
          let q = doubt_played doubts w i s steps (next_taken between) stopped after e said so house l ended' in
          let here : StandsInBook (s.history ++ e ∷ []) = subst (λ (h : History). StandsInBook (h ++ e ∷ [])) same book in (
            entered (raised s q.reading) e,
            ap (λ (h : History). h ++ e ∷ []) (sym same),
            by_events w i (entered (raised s q.reading) e) (Enter i (payload e) ∷ []) after (q.plays here) (refl, tt),
          );
    }

either_doubt : (doubts : Doubts) (s : State) (steps : List (Did State)) (between stopped after : LinkView) (e : Entry) (said : List ℕ) → DoubtsOperators doubts → DoubtsEither IsWhose doubts MOST_TOLD steps s (next_taken between) e said stopped
    → after ≡ record stopped { stands = false } → KnownDoubt s steps between after e
either_doubt doubts s steps between stopped after e said so (inl customer) ended' = customer_doubt s steps between stopped after e said customer.3 ended'
either_doubt doubts s steps between stopped after e said so (inr operator) ended' = operator_doubt doubts s steps between stopped after e said so operator.1 ended'

-- ---- what each link is

links_played : (ends : Endings) (i n : ℕ) (s : State) (steps : List (Did State)) (before after : LinkView) → AllAddOperators ends → HadLinksBy (HadEither IsWhose ends MOST_TOLD) n steps s before after → OpenLinksArePlayed i n s steps before after
links_played ends i zero s steps before after so had = had
links_played ends i (suc n) s steps before after so had =
    let u : State = state_after s had.0 in (
      had.0,
      had.1,
      had.2,
      had.3,
      links_played ends i n s had.0 before had.2 so had.4,
      (either_known ends u had.1 had.2 after so had.5).tells,
      (λ w house. either_is_schedule ends so w i u had.1 (next_taken had.2) after house had.5),
    )

all_played : (ends : Endings) (i links n : ℕ) (s : State) (steps : List (Did State)) (before after : LinkView) → AllAddOperators ends → ServedAllBy (HadEither IsWhose ends MOST_TOLD) links n steps s before after → OpenArePlayed i n s steps before after
all_played ends i links n s steps before after so (inl a) = record { between = after; played = links_played ends i n s steps before after so a.1; same = refl; tells = λ tells. tells }
all_played ends i links n s steps before after so (inr b) = record {
  between = b.1.0;
  played = links_played ends i n s steps before b.1.0 so b.1.1;
  same = ap sessions_of b.1.2;
  tells = λ tells. same_moments b.1.0 after (ap (λ (v : LinkView). v.readings) b.1.2) tells;
}

some_played : (ends : Endings) (i links : ℕ) (s : State) (steps : List (Did State)) (before after : LinkView) → AllAddOperators ends → ServedSomeBy (HadEither IsWhose ends MOST_TOLD) links steps s before after → (n : ℕ) × OpenArePlayed i n s steps before after
some_played ends i links s steps before after so x = (
  x.n,
  record {
    between = x.between;
    played = links_played ends i x.n s steps before x.between so x.links_had;
    same = ap sessions_of x.fault.same;
    tells = λ tells. same_moments x.between after (ap (λ (v : LinkView). v.readings) x.fault.same) tells;
  },
)

last_played : (doubts : Doubts) (w : World) (i : ℕ) (u : State) (last : List (Did State)) (taken stopped after : LinkView) (e : Entry) (said : List ℕ) → DoubtsOperators doubts → slice_get w.houses i ≡ Some u
    → DoubtsEither IsWhose doubts MOST_TOLD last u taken e said stopped → after ≡ record stopped { stands = false }
    → (IsWhose taken false × FrontIsPlayed full w i u last said taken after) ⊎ (IsWhose taken true × (last ≡ []) × DoubtIsPlayed w i u e said taken after)
last_played doubts w i u last taken stopped after e said so house (inl customer) ended' =
    inl (customer.0, front_ended full w i u last said taken stopped after ended' (front_is_played full w i u last taken e said stopped house customer.3))
last_played doubts w i u last taken stopped after e said so house (inr operator) ended' = inr (operator.0, operator.1.none, doubt_played doubts w i u last taken stopped after e said so house operator.1 ended')

first_played : (ends : Endings) (doubts : Doubts) (i links : ℕ) (s : State) (steps : List (Did State)) (before after : LinkView) (e : Entry) (said : List ℕ) → AllAddOperators ends → DoubtsOperators doubts
    → InDoubtBy (HadEither IsWhose ends MOST_TOLD) (DoubtsEither IsWhose doubts MOST_TOLD) links steps s before e said after → FirstOpenPlayed i s steps e said before after
first_played ends doubts i links s steps before after e said so so_doubts x =
    let u : State = state_after s x.front in record {
      n = x.n;
      front = x.front;
      last = x.last;
      between = x.between;
      steps_are = x.steps_are;
      played = links_played ends i x.n s x.front before x.between so x.links_had;
      tells = (either_doubt doubts u x.last x.between x.stopped after e said so_doubts x.last_link x.ended).tells;
      here = λ w house. last_played doubts w i u x.last (next_taken x.between) x.stopped after e said so_doubts house x.last_link x.ended;
    }

pub open_links_play : (ends : Endings) (doubts : Doubts) → AllAddOperators ends → DoubtsOperators doubts → OpenLinksPlay ends doubts
open_links_play ends doubts so so_doubts = record {
  all = λ i links n s steps before after x. all_played ends i links n s steps before after so x;
  some = λ i links s steps before after x. some_played ends i links s steps before after so x;
  first = λ i links s steps before after e said x. first_played ends doubts i links s steps before after e said so so_doubts x;
}

-- ---- where they lead

-- the links before it lead to where it was taken
before_doubt : (ends : Endings) (doubts : Doubts) (i links : ℕ) (s : State) (steps : List (Did State)) (before after : LinkView) (e : Entry) (said : List ℕ) → AllAddOperators ends → DoubtsOperators doubts
    → (x : InDoubtBy (HadEither IsWhose ends MOST_TOLD) (DoubtsEither IsWhose doubts MOST_TOLD) links steps s before e said after) → StandsInBook (state_after s steps).history
    → (w : World) → slice_get w.houses i ≡ Some s → TellsMoments after → LeadsBy IsOfDoor full w i (state_after s x.front) x.between
before_doubt ends doubts i links s steps before after e said so so_doubts x book w house tells =
    let u : State = state_after s x.front in
    let k = either_doubt doubts u x.last x.between x.stopped after e said so_doubts x.last_link x.ended in
    let is : state_after s steps ≡ state_after u x.last = ap (state_after s) x.steps_are ∙ state_after-append s x.front x.last in
    let earlier : StandsInBook u.history = front_of_book u.history (state_after s steps).history k.added.0 (ap (λ (t : State). t.history) is ∙ k.added.1) book in
    fronts_by ends i x.n s x.front before x.between so x.links_had x.front [] (sym (append-nil x.front)) earlier w house (k.tells tells)

first_by : (ends : Endings) (doubts : Doubts) (i links : ℕ) (s : State) (steps : List (Did State)) (before after : LinkView) (e : Entry) (said : List ℕ) → AllAddOperators ends → DoubtsOperators doubts
    → InDoubtBy (HadEither IsWhose ends MOST_TOLD) (DoubtsEither IsWhose doubts MOST_TOLD) links steps s before e said after → StandsInBook (state_after s steps).history
    → (w : World) → slice_get w.houses i ≡ Some s → TellsMoments after → LeadsBy IsOfDoor full w i (state_after s steps) after
first_by ends doubts i links s steps before after e said so so_doubts x book w house tells =
    let u : State = state_after s x.front in
    let k = either_doubt doubts u x.last x.between x.stopped after e said so_doubts x.last_link x.ended in
    let a = before_doubt ends doubts i links s steps before after e said so so_doubts x book w house tells in
    let b = leads_on IsOfDoor full w i s u (state_after u x.last) x.between after k.grows house a (λ y there. k.leads y i there tells) in
    subst (λ (t : State). LeadsBy IsOfDoor full w i t after) (sym (ap (state_after s) x.steps_are ∙ state_after-append s x.front x.last)) b

doubt_by : (ends : Endings) (doubts : Doubts) (i links : ℕ) (s : State) (steps : List (Did State)) (before after : LinkView) (e : Entry) (said : List ℕ) → AllAddOperators ends → DoubtsOperators doubts
    → InDoubtBy (HadEither IsWhose ends MOST_TOLD) (DoubtsEither IsWhose doubts MOST_TOLD) links steps s before e said after → StandsInBook ((state_after s steps).history ++ e ∷ [])
    → (w : World) → slice_get w.houses i ≡ Some s → TellsMoments after → (t : State) × (t.history ≡ (state_after s steps).history ++ e ∷ []) × LeadsBy IsOfDoor full w i t after
doubt_by ends doubts i links s steps before after e said so so_doubts x book w house tells =
    let u : State = state_after s x.front in
    let k = either_doubt doubts u x.last x.between x.stopped after e said so_doubts x.last_link x.ended in
    let h : History = (state_after s steps).history in
    let a = before_doubt ends doubts i links s steps before after e said so so_doubts x (front_of_book h (h ++ e ∷ []) (e ∷ []) refl book) w house tells in
    let is : h ≡ (state_after u x.last).history = ap (λ (t : State). t.history) (ap (state_after s) x.steps_are ∙ state_after-append s x.front x.last) in
    let z = k.with_it (after_link w i u a.texts a.replies) i (set_here w.houses i s u house) tells (subst (λ (g : History). StandsInBook (g ++ e ∷ [])) is book) in (
      z.0,
      z.1 ∙ ap (λ (g : History). g ++ e ∷ []) (sym is),
      leads_from IsOfDoor full w i s u z.0 x.between after k.grows house a z.2,
    )

pub open_links_lead : (ends : Endings) (doubts : Doubts) → AllAddOperators ends → DoubtsOperators doubts → OpenLinksLead ends doubts
open_links_lead ends doubts so so_doubts = record {
  all = λ i links n s steps before after x. all_by ends i links n s steps before after so x;
  some = λ i links s steps before after x. some_by ends i links s steps before after so x;
  first = λ i links s steps before after e said x book w house tells. first_by ends doubts i links s steps before after e said so so_doubts x book w house tells;
  doubt = λ i links s steps before after e said x book w house tells. doubt_by ends doubts i links s steps before after e said so so_doubts x book w house tells;
}

-- ---- a run

left_book : (d : DiskView) (h : History) → EncodesLawful d h → StandsInBook h
left_book d h left = whole_book h left.bytes left.stands left.lawful

-- the first parts of steps that a disk encodes the end of are of a book
all_books : (s : State) (steps : List (Did State)) → Ones s steps → StandsInBook (state_after s steps).history → (done rest : List (Did State)) → steps ≡ done ++ rest → StandsInBook (state_after s done).history
all_books s steps ones book done rest is =
    ones_book s done rest (ones_front s done rest (subst (Ones s) is ones)) (subst (λ (ds : List (Did State)). StandsInBook (state_after s ds).history) is book)

pub opening_is_run : {O : Type 0} (link : O → LinkView) (disk : O → DiskView) (ends : Endings) (doubts : Doubts) → AllAddOperators ends → OpeningIsARun link disk ends doubts
opening_is_run link disk ends doubts so kind links bytes a (statuses.Served n) b x served tells w i t house stands =
    let s : State = x.0 in
    let steps : List (Did State) = x.1 in
    let ones : Ones s steps = served_ones x.3 in
    let book = left_book (disk b) (state_after s steps).history x.2.left in
    served_run IsOfDoor link disk kind bytes a b s steps x.2 (λ y j there done rest is. all_by ends j links n s steps (link a) (link b) so x.3 done rest is (all_books s steps ones book done rest is) y there tells) ones w i t house stands
  where
    served_ones : ServedAllBy (HadEither IsWhose ends MOST_TOLD) links n x.1 x.0 (link a) (link b) → Ones x.0 x.1
    served_ones (inl all) = by_ones ends n x.0 x.1 (link a) (link b) so all.1
    served_ones (inr few) = by_ones ends n x.0 x.1 (link a) few.1.0 so few.1.1
opening_is_run link disk ends doubts so kind links bytes a statuses.LinkFault b x served tells w i t house stands =
    let s : State = x.0 in
    let steps : List (Did State) = x.1 in
    let ones : Ones s steps = by_ones ends x.3.n s steps (link a) x.3.between so x.3.links_had in
    let book = left_book (disk b) (state_after s steps).history x.2.left in
    served_run IsOfDoor link disk kind bytes a b s steps x.2 (λ y j there done rest is. some_by ends j links s steps (link a) (link b) so x.3 done rest is (all_books s steps ones book done rest is) y there tells) ones w i t house stands
opening_is_run link disk ends doubts so kind links bytes a status b x served tells w i t house stands = absurd served

-- a site's history has a first entry
site_begins : (h : History) (kind : ℕ) → site_kind h ≡ Some kind → h ≡ [] → ⊥
site_begins h kind of_kind none = let no : site_kind [] ≡ Some kind = sym (ap site_kind none) ∙ of_kind in cc

nothing_before : (h g more : History) → g ≡ h ++ more → g ≡ [] → h ≡ []
nothing_before [] g more is none = refl
nothing_before (x ∷ h) g more is none = absurd (let no : x ∷ (h ++ more) ≡ [] = sym is ∙ none in cc)

-- where the disk failed, entries were added, and none was taken away
doubt_grown : (ends : Endings) (doubts : Doubts) (links : ℕ) (s : State) (steps : List (Did State)) (before after : LinkView) (e : Entry) (said : List ℕ) → AllAddOperators ends → DoubtsOperators doubts
    → InDoubtBy (HadEither IsWhose ends MOST_TOLD) (DoubtsEither IsWhose doubts MOST_TOLD) links steps s before e said after → (more : History) × ((state_after s steps).history ≡ s.history ++ more)
doubt_grown ends doubts links s steps before after e said so so_doubts x =
    let u : State = state_after s x.front in
    let first = ones_grow s x.front x.front [] (by_ones ends x.n s x.front before x.between so x.links_had) (sym (append-nil x.front)) in
    let later = (either_doubt doubts u x.last x.between x.stopped after e said so_doubts x.last_link x.ended).added in (
      first.0 ++ later.0,
      ap (λ (t : State). t.history) (ap (state_after s) x.steps_are ∙ state_after-append s x.front x.last) ∙ later.1 ∙ ap (λ (h : History). h ++ later.0) first.1 ∙ append_assoc s.history first.0 later.0,
    )

pub opening_halts : {O : Type 0} (link : O → LinkView) (disk : O → DiskView) (ends : Endings) (doubts : Doubts) → AllAddOperators ends → DoubtsOperators doubts → OpeningHalts link disk ends doubts
opening_halts link disk ends doubts so so_doubts kind links bytes a b x tells w i t house stands image leaves =
    let s : State = x.0 in
    let steps : List (Did State) = x.1 in
    let e : Entry = x.2 in
    let from = x.4 in
    let h : History = (state_after s steps).history in
    let same : opens t.history ≡ s = opened_as t s (one_history t.history s.history bytes stands from.encoded.stands) from.encoded.time' in
    let there : slice_get (with_house w i (opens t.history)).houses i ≡ Some s = set_here w.houses i t (opens t.history) house ∙ ap some same in
    let grown = doubt_grown ends doubts links s steps (link a) (link b) e x.3 so so_doubts x.5 in
    elim (from.left.leaves image leaves) [
      | inl old ↦
          let book : StandsInBook h = whole_book h image old (lawful_before h (e ∷ []) (λ none. site_begins s.history kind from.encoded.of_kind (nothing_before s.history h grown.0 grown.1 none)) from.left.lawful) in
          (h, run_of IsOfDoor w i t (state_after s steps) (link b) house (first_by ends doubts i links s steps (link a) (link b) e x.3 so so_doubts x.5 book (with_house w i (opens t.history)) there tells), old)
      | inr new ↦
          let book : StandsInBook (h ++ e ∷ []) = whole_book (h ++ e ∷ []) image new from.left.lawful in
          let z = doubt_by ends doubts i links s steps (link a) (link b) e x.3 so so_doubts x.5 book (with_house w i (opens t.history)) there tells in
          (z.0.history, run_of IsOfDoor w i t z.0 (link b) house z.2, subst (λ (g : History). Encodes g image) (sym z.1) new)
    ]
  where
    some : State → Option State
    some u = Some u
