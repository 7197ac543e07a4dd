-- What becomes of a link, and of links one after another, over any step relation.
use Rattle.std.specs.Prelude.{◌≡◌, ◌⊎◌, ℕ, zero, suc, ◌<◌, true, false, List, [], ◌∷◌, ◌++◌, length, take, All, Option, Some}
use Rattle.mc_outside.specs.Bytes.{Rose}
use Rattle.mc_outside.specs.LinkView.{LinkView, next_taken, none_left, after_recv, after_send, after_eof, Failed}
use Rattle.millicent_http.specs.declared.clock.Clock.{Clock}
use Rattle.millicent_http.specs.declared.clock.Clock.TheVariants.{OfLinks, At}
use Rattle.millicent_http.specs.Items.{Item, closes, Heads}
use Rattle.millicent_http.specs.Reads.{HaveRead, NoneCloses}
use Rattle.millicent_http.specs.Steps.{StepRelation, Did, sent_of, state_after, Run}
use Rattle.millicent_http.specs.declared.reader.TheConstants.{MAX_ITEMS}

-- ---- the clock

-- These readings were read between two moments of the links. Where the clock is that of the links, and
-- they tell their readings, they are the last ones; a clock that stands reads nothing of the links.
abbrev pub AreRead : Clock → List ℕ → Option (List ℕ) → Option (List ℕ) → Type 0
AreRead OfLinks readings before after = (rs : List ℕ) → after ≡ Some rs → (qs : List ℕ) × (before ≡ Some qs) × (rs ≡ qs ++ readings)
AreRead (At moment) readings before after = (after ≡ before) × All (λ reading. reading ≡ moment) readings

-- the links, with these readings of the clock
abbrev pub with_readings : Option (List ℕ) → LinkView → LinkView
with_readings readings v = record v { readings = readings }

-- these steps answered some items, at readings of the clock
pub record Replied {S : Type 0} (Step : StepRelation S) (clock : Clock) (items : List Item) (steps : List (Did S)) (s : S) (before after : Option (List ℕ)) : Type 0 where
  pub readings : List ℕ
  pub read : AreRead clock readings before after
  pub ran : Run Step s items readings steps

-- ---- one link

-- the last of these items closes the link, or is the last that one may have
abbrev pub EndLink : List Item → Type 0
EndLink items = (length items ≡ MAX_ITEMS) ⊎ ((front : List Item) × (last : Item) × (items ≡ front ++ last ∷ []) × (closes last ≡ true))

-- these are the first items on a link with these bytes, and one more
pub record AreFirst (got : List ℕ) (front : List Item) (last : Item) : Type 0 where
  pub held : List ℕ
  pub read : HaveRead got (front ++ last ∷ []) held
  pub open' : NoneCloses front
  pub few : length front < MAX_ITEMS

-- Every item of what was received was answered, and the link was read to its end, or to an item that
-- ends it.
pub record IsServed {S : Type 0} (Step : StepRelation S) (clock : Clock) (steps : List (Did S)) (s : S) (before after : LinkView) : Type 0 where
  pub got : List ℕ
  pub items : List Item
  pub heads : Heads got items
  pub replied : Replied Step clock items steps s before.readings after.readings
  pub read : LinkView
  pub to_end : (read ≡ after_eof (after_recv got before)) ⊎ ((read ≡ after_recv got before) × EndLink items)
  pub sent : after ≡ with_readings after.readings (after_send (sent_of steps) read)

-- A `recv` failed when every item of what was received was answered.
pub record BrokeReceiving {S : Type 0} (Step : StepRelation S) (clock : Clock) (steps : List (Did S)) (s : S) (before after : LinkView) : Type 0 where
  pub got : List ℕ
  pub items : List Item
  pub heads : Heads got items
  pub replied : Replied Step clock items steps s before.readings after.readings
  pub fault : Failed (with_readings after.readings (after_send (sent_of steps) (after_recv got before))) after

-- A `send` failed: the replies to the first items were sent whole, and of the last one's a proper
-- prefix.
pub record BrokeSending {S : Type 0} (Step : StepRelation S) (clock : Clock) (steps : List (Did S)) (s : S) (before after : LinkView) : Type 0 where
  pub got : List ℕ
  pub front : List Item
  pub last : Item
  pub first : AreFirst got front last
  pub done : List (Did S)
  pub between : Option (List ℕ)
  pub replied : Replied Step clock front done s before.readings between
  pub reply : List ℕ
  pub step : Did S
  pub replied_last : Replied Step clock (last ∷ []) (record { sent = reply; after = step.after } ∷ []) (state_after s done) between after.readings
  pub n : ℕ
  pub part : n < length reply
  pub sent : step.sent ≡ take n reply
  pub steps_are : steps ≡ done ++ step ∷ []
  pub fault : Failed (with_readings after.readings (after_send (sent_of steps) (after_recv got before))) after

-- What becomes of a link that was taken: it is served whole, or up to a fault of one of its calls, and
-- then ended.
pub record HadLink {S : Type 0} (Step : StepRelation S) (clock : Clock) (steps : List (Did S)) (s : S) (before after : LinkView) : Type 0 where
  pub served : LinkView
  pub course : IsServed Step clock steps s before served ⊎ (BrokeReceiving Step clock steps s before served ⊎ BrokeSending Step clock steps s before served)
  pub ended : after ≡ record served { stands = false }

-- ---- links one after another

-- so many links were taken, one after another
abbrev pub HadLinks : {S : Type 0} → StepRelation S → Clock → ℕ → List (Did S) → S → LinkView → LinkView → Type 0
HadLinks Step clock zero steps s before after = (steps ≡ []) × (after ≡ before)
HadLinks {S} Step clock (suc n) steps s before after =
    (front : List (Did S)) × (last : List (Did S)) × (between : LinkView) × (steps ≡ front ++ last)
    × HadLinks Step clock n front s before between × HadLink Step clock last (state_after s front) (next_taken between) after

-- `next_link` failed
pub record NoLink (before after : LinkView) : Type 0 where
  pub same : after ≡ record before { stands = false; faults = after.faults }
  pub rose : Rose before.faults after.faults

-- so many links were served: as many as were asked for, or all that came
abbrev pub ServedAll : {S : Type 0} → StepRelation S → Clock → ℕ → ℕ → List (Did S) → S → LinkView → LinkView → Type 0
ServedAll Step clock links n steps s before after =
    ((n ≡ links) × HadLinks Step clock n steps s before after)
    ⊎ ((n < links) × ((between : LinkView) × HadLinks Step clock n steps s before between × (after ≡ none_left between)))

-- some links were served, fewer than were asked for, and then none could be taken
pub record ServedSome {S : Type 0} (Step : StepRelation S) (clock : Clock) (links : ℕ) (steps : List (Did S)) (s : S) (before after : LinkView) : Type 0 where
  pub n : ℕ
  pub few : n < links
  pub between : LinkView
  pub links_had : HadLinks Step clock n steps s before between
  pub fault : NoLink between after
