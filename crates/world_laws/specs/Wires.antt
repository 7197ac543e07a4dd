-- A wallet's link and a site's link that are the two ends of one wire.
use Rattle.std.specs.Prelude.{◌≡◌, ℕ, ◌+◌, ◌<◌, List, [], ◌∷◌, ◌++◌, Some}
use Rattle.std.specs.List.{AllByRecursion}
use Rattle.mc_outside.specs.Bytes.{Rose}
use Rattle.mc_outside.specs.DiskView.{DiskView}
use Rattle.mc_outside.specs.LinkView.{LinkView, Session, next_taken}
use Rattle.mc_requests.specs.declared.limits.Limits.{Limits}
use Rattle.mc_records.specs.Entry.{Entry, moment_of}
use Rattle.ledger_model.specs.Histories.{History}
use Rattle.ledger_model.specs.Houses.{keeping}
use Rattle.millicent_http.specs.declared.clock.Clock.TheVariants.{OfLinks}
use Rattle.millicent_http.specs.Steps.{Did}
use Rattle.millicent_http.specs.Courses.{HadLink}
use Rattle.command_status.specs.declared.status.Status.{Status}
use Rattle.command_status.specs.declared.status.Status.TheVariants as ends
use Rattle.house_core.specs.Session.{State, Step}
use Rattle.wallet_model.specs.Requests.{Pending}
use Rattle.wallet_model.specs.Settling.{settlement}
use Rattle.world_model.specs.Worlds.{World, Event, Plays, wallet_time}
use Rattle.world_model.specs.Agreement.{IsSetup, MayRepeat, IsSettling}
use Rattle.world_laws.specs.Requests.{EndsSettled, UsedAs}

-- From one moment of the links to another one link was taken, and this is what became of it.
pub record TookLink (before after : LinkView) (x : Session) : Type 0 where
  pub earlier : List Session
  pub were : before.sessions ≡ Some earlier
  pub are : after.sessions ≡ Some (earlier ++ x ∷ [])

-- Two links are the ends of one wire that works: what each of them was sent the other received.
pub record IsWire (x y : Session) : Type 0 where
  pub there : y.received ≡ x.sent
  pub back : x.received ≡ y.sent

-- the readings of the clock are told, and each is before a moment
abbrev pub TellsBefore : ℕ → LinkView → Type 0
TellsBefore end v = (readings : List ℕ) × (v.readings ≡ Some readings) × AllByRecursion (λ reading. reading < end) readings

-- A site served one link from a state on, no call of its links failed, and its clock told readings before a moment.
pub record ServedWell (limits : Limits) (s : State) (end : ℕ) (before after : LinkView) : Type 0 where
  pub steps : List (Did State)
  pub had : HadLink (Step limits) OfLinks steps s (next_taken before) after
  pub well : Rose before.faults after.faults → ⊥
  pub told : TellsBefore end after

-- After every schedule: where a wallet's kept request is the oldest one of its peer, and that site has its entry and still keeps
-- its reply, one link that the wallet uses for it and one that the site serves, over a wire that works, settle it by the
-- first reply of that entry, a 200.
abbrev pub RetriesSettle : {O : Type 0} → (O → DiskView) → Type 0
RetriesSettle {O} disk = (limits : Limits) (w v : World) (events : List Event) → IsSetup limits w → Plays limits w events v
    → (j i n at : ℕ) (h : History) (s : State) (p : Pending) (e : Entry) → MayRepeat v j i n h s p e at
    → (moment : ℕ) (before after : LinkView) (status : Status) (b : O) → UsedAs j h moment n p before after status (disk b) → (status ≡ ends.LinkFault → ⊥)
    → (site_before site_after : LinkView) → ServedWell limits s (moment_of e + keeping s.history) site_before site_after
    → (x y : Session) → TookLink before after x → TookLink site_before site_after y → IsWire x y
    → (made : IsSettling s.history at p) × EndsSettled h p made.r (settlement h (wallet_time h moment) n p made.r) status (disk b)
