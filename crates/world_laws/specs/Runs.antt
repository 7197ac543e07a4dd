-- Serving the book of a site, as a run of a house of a world.
use Rattle.std.specs.Prelude.{◌≡◌, ◌⊎◌, ℕ, ◌<◌, ◌^◌, List, ◌∷◌, Some, slice_get}
use Rattle.std.specs.List.{AllByRecursion}
use Rattle.mc_outside.specs.DiskView.{DiskView, Ran}
use Rattle.mc_outside.specs.LinkView.{LinkView}
use Rattle.operator_command.specs.Operations.{full}
use Rattle.ledger_model.specs.Histories.{History}
use Rattle.scrip_journal.specs.Layout.{Encodes}
use Rattle.command_status.specs.declared.status.Status.{Status}
use Rattle.command_status.specs.declared.status.Status.TheVariants as ends
use Rattle.house_core.specs.Session.{State}
use Rattle.site_commands.specs.Serving.{EncodesLawful, ServesLinksOf}
use Rattle.wallet_model.specs.Asks.{Asking}
use Rattle.wallet_commands.specs.Paying.{Clocked, PaysBy, RetriesBy}
use Rattle.wallet_model.specs.Asks.{pend_entry}
use Rattle.wallet_model.specs.Requests.{oldest_kept}
use Rattle.mc_requests.specs.declared.limits.TheConstants.Limits.{FULL}
use Rattle.world_model.specs.Worlds.{World, Event, Ask, Again, Tell, Return, Restart, CanBeAsked, Plays}
use Rattle.world_laws.specs.Links.{TellsMoments, after_link, AreReceived, IsOfServing}

-- From this world on house i begins a new run, and one schedule of events of some kinds, in which nobody else moves, leaves it with this
-- history. What is sent in it was received on these links.
pub record IsRunBy (Is : ℕ → Event → Type 0) (w : World) (i : ℕ) (g : History) (links : LinkView) : Type 0 where
  pub u : State
  pub has : u.history ≡ g
  pub events : List Event
  pub texts : List (List ℕ)
  pub replies : List (List ℕ)
  pub plays : Plays full w (Restart i ∷ events) (after_link w i u texts replies)
  pub received : AreReceived texts links
  pub kinds : AllByRecursion (Is i) events

-- what a crash may leave: what it could have left before, with nothing sent; or what such a run encodes
abbrev pub LeavesRunBy : (ℕ → Event → Type 0) → World → ℕ → LinkView → DiskView → List ℕ → List ℕ → Type 0
LeavesRunBy Is w i links before image sent = (before.leaves image × (sent ≡ before.aside)) ⊎ ((g : History) × IsRunBy Is w i g links × Encodes g image)

-- The disk encodes the history that such a run leaves, and each crash meanwhile leaves that of one.
pub record RunsBy {O : Type 0} (Is : ℕ → Event → Type 0) (link : O → LinkView) (disk : O → DiskView) (w : World) (i : ℕ) (a b : O) : Type 0 where
  pub g : History
  pub left : EncodesLawful (disk b) g
  pub run : IsRunBy Is w i g (link b)
  pub crash : Ran (disk a) (disk b) (LeavesRunBy Is w i (link b) (disk a))

-- and of events of serving
abbrev pub IsRun : World → ℕ → History → LinkView → Type 0
IsRun w i g links = IsRunBy IsOfServing w i g links

abbrev pub RunsAsHouse : {O : Type 0} → (O → LinkView) → (O → DiskView) → World → ℕ → O → O → Type 0
RunsAsHouse link disk w i a b = RunsBy IsOfServing link disk w i a b

-- the links were served, or the next one could not be taken
abbrev pub HasServed : Status → Type 0
HasServed (ends.Served n) = Unit {0}
HasServed ends.LinkFault = Unit {0}
HasServed _ = ⊥

-- What serving says of a book (`ServesLinksOf`), from each world where house i has the history of the book.
abbrev pub ServingIsARun : {O : Type 0} → (O → LinkView) → (O → DiskView) → Type 0
ServingIsARun {O} link disk = (kind links : ℕ) (bytes : List ℕ) (a : O) (status : Status) (b : O) → ServesLinksOf link disk kind links bytes a status b → HasServed status → TellsMoments (link b)
    → (w : World) (i : ℕ) (t : State) → slice_get w.houses i ≡ Some t → Encodes t.history bytes → RunsAsHouse link disk w i a b

-- Where the disk failed under an entry (4), each image that a crash may leave then is that of a run, with the entry or without.
abbrev pub HaltingIsARun : {O : Type 0} → (O → LinkView) → (O → DiskView) → Type 0
HaltingIsARun {O} link disk = (kind links : ℕ) (bytes : List ℕ) (a : O) (b : O) → ServesLinksOf link disk kind links bytes a ends.DiskFault b → TellsMoments (link b)
    → (w : World) (i : ℕ) (t : State) → slice_get w.houses i ≡ Some t → Encodes t.history bytes
    → (image : List ℕ) → (disk b).leaves image → (g : History) × IsRun w i g (link b) × Encodes g image

-- ---- wallets

-- an event of a command of wallet j
abbrev pub IsOfWallet : ℕ → Event → Type 0
IsOfWallet j (Ask wallet asking reading) = wallet ≡ j
IsOfWallet j (Again wallet peer) = wallet ≡ j
IsOfWallet j (Tell bytes) = Unit {0}
IsOfWallet j (Return reply wallet number reading) = wallet ≡ j
IsOfWallet j _ = ⊥

-- This image encodes the history that such events leave wallet j with; no house is another.
pub record IsOfPayment (w : World) (j : ℕ) (image : List ℕ) : Type 0 where
  pub g : History
  pub v : World
  pub events : List Event
  pub plays : Plays FULL w events v
  pub wallet : slice_get v.wallets j ≡ Some g
  pub houses : v.houses ≡ w.houses
  pub stands : Encodes g image
  pub paying : AllByRecursion (IsOfWallet j) events

abbrev pub LeavesPayment : World → ℕ → DiskView → Type 0
LeavesPayment w j d = (image : List ℕ) → d.leaves image → IsOfPayment w j image

-- What a get, a buy or a draw says of a book (`PaysBy`), from each world where wallet j has its history: each image that a
-- crash at its end may leave is that of its Ask and of the Return of what came.
abbrev pub PayingIsARun : {O : Type 0} → (O → LinkView) → (O → DiskView) → Type 0
PayingIsARun {O} link disk = (w : World) (j : ℕ) (asking : Asking) (bytes : List ℕ) (a : O) (status : Status) (b : O)
    → (c : Clocked link (λ h t clocked. PaysBy link disk h t (pend_entry h t asking) a clocked status b) bytes a)
    → slice_get w.wallets j ≡ Some c.history → CanBeAsked asking → c.moment < 2 ^ 35 → LeavesPayment w j (disk b)

-- and `wallet retry`
abbrev pub TryingIsARun : {O : Type 0} → (O → LinkView) → (O → DiskView) → Type 0
TryingIsARun {O} link disk = (w : World) (j : ℕ) (peer bytes : List ℕ) (a : O) (status : Status) (b : O)
    → (c : Clocked link (λ h t clocked. RetriesBy link disk h t (oldest_kept h peer) a clocked status b) bytes a)
    → slice_get w.wallets j ≡ Some c.history → c.moment < 2 ^ 35 → LeavesPayment w j (disk b)
