-- Setups, events, games and what is left of them, as the definitions of schedules have them.
use Rattle.std.specs.Prelude.{◌≡◌, ◌≤◌, ◌^◌, List, [], map}
use Rattle.std.specs.List.{AllByRecursion}
use Rattle.mc_requests.specs.declared.limits.Limits.{Limits}
use Rattle.mc_requests.specs.Limits.{AreInRange}
use Rattle.mc_records.specs.Entry.{Entry, Fits}
use Rattle.mc_records.specs.Sizes.{size}
use Rattle.ledger_model.specs.Histories.{History}
use Rattle.ledger_model.specs.Lawful.{IsLawful}
use Rattle.wallet_model.specs.Follows.{IsWalletBook}
use Rattle.wallet_core.specs.Asks.{asking_of}
use Rattle.world_model.specs.Worlds.{World, Event, HasBytes, Enter, Ask, Again, Forge, Tell, Deliver, Return, Restart, opens, Plays}
use Rattle.world_model.specs.Signings.{IsSound}
use Rattle.world_model.specs.Agreement.{DoneIsAccepted, AcceptedOnce, DoneOnce, DoneIsDrawn, PiecesOnce, AcceptedIsAsked, DrawnIsAsked, RepeatSettles}
use Rattle.world_model.specs.Conservation.{AreLawful, AllBalanced}
use Rattle.mc_world.specs.declared.event.Setup.{Setup}
use Rattle.mc_world.specs.declared.event.Event.TheVariants as events
use Rattle.mc_world.specs.declared.event.Event.{Event as Happening}
use Rattle.mc_world.specs.declared.game.Game.{Game}
use Rattle.mc_world.specs.declared.world.World.{World as Left}

-- ---- a setup

-- an entry is in its ranges, and the secrets of its stock are bytes, as of each that is read
pub record IsReadEntry (e : Entry) : Type 0 where
  pub fits : Fits e
  pub secrets : HasBytes e

abbrev pub IsRead : History → Type 0
IsRead h = AllByRecursion IsReadEntry h

-- lawful histories of houses and of wallets that a journal can hold, and limits in their ranges
pub record IsLawfulSetup (setup : Setup) : Type 0 where
  pub range : AreInRange setup.limits
  pub houses : AllByRecursion (λ h. IsLawful setup.limits h × (size h ≤ 2 ^ 40)) setup.houses.items
  pub wallets : AllByRecursion (λ h. IsWalletBook h × (size h ≤ 2 ^ 40)) setup.wallets.items

-- the world that a setup begins with: each house as its history opens it, and nothing was sent
abbrev pub first_world : Setup → World
first_world setup = record { houses = map opens setup.houses.items; wallets = setup.wallets.items; messages = []; replies = [] }

-- ---- events

abbrev pub event_of : Happening → Event
event_of (events.Enter house payload) = Enter house payload.items
event_of (events.Ask wallet ask reading) = Ask wallet (asking_of ask) reading
event_of (events.Again wallet peer) = Again wallet peer
event_of (events.Forge bytes) = Forge bytes.items
event_of (events.Tell bytes) = Tell bytes.items
event_of (events.Deliver message house reading) = Deliver message house reading
event_of (events.Return reply wallet request reading) = Return reply wallet request reading
event_of (events.Restart party) = Restart party

-- ---- a game

abbrev pub world_of : Game → World
world_of g = record { houses = g.houses.items; wallets = g.wallets.items; messages = g.messages.items; replies = map (λ v. v.items) g.replies.items }

-- ---- what is left

-- what is left is of this world: its histories, and the bytes of its messages and replies
pub record Shows (left : Left) (v : World) : Type 0 where
  pub houses' : left.houses.items ≡ map (λ s. s.history) v.houses
  pub wallets' : left.wallets.items ≡ v.wallets
  pub messages' : map (λ b. b.items) left.messages.items ≡ map (λ m. m.bytes) v.messages
  pub replies' : map (λ b. b.items) left.replies.items ≡ v.replies

-- wallets and houses agree at the end of a schedule
pub record Agree (w v : World) : Type 0 where
  pub done : DoneIsAccepted w v
  pub accepted : AcceptedOnce v
  pub once : DoneOnce w v
  pub drawn : DoneIsDrawn w v
  pub asked : AcceptedIsAsked w v
  pub ordered : DrawnIsAsked w v

-- What is left is of a world to which the events lead. There books are lawful and balanced, no piece stands twice in a
-- wallet, and a repeat settles; and where signatures are sound, wallets and houses agree.
pub record IsPlayed (limits : Limits) (w : World) (es : List Event) (left : Left) : Type 0 where
  pub v : World
  pub plays : Plays limits w es v
  pub shows : Shows left v
  pub lawful : AreLawful limits v
  pub balanced : AllBalanced v
  pub pieces : PiecesOnce v
  pub repeats : RepeatSettles limits v
  pub agree : IsSound limits w es v → Agree w v
