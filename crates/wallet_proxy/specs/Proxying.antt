-- What serving links by the wallet of a book does, up to the line that is said.
use Rattle.std.specs.Prelude.{◌≡◌, ◌⊎◌, ℕ, ◌+◌, ◌<◌, ◌≤◌, IsTrue, IsSome, List, [], ◌∷◌, ◌++◌, length}
use Rattle.mc_outside.specs.Bytes.{Rose}
use Rattle.mc_outside.specs.DiskView.{DiskView, Ran}
use Rattle.mc_outside.specs.LinkView.{LinkView}
use Rattle.mc_requests.specs.declared.refusal.Refusal.TheVariants as refusals
use Rattle.mc_records.specs.Entry.{Entry}
use Rattle.ledger_model.specs.Histories.{time}
use Rattle.scrip_journal.specs.Layout.{Encodes}
use Rattle.millicent_http.specs.declared.clock.Clock.TheVariants.{OfLinks}
use Rattle.millicent_http.specs.Steps.{Did, sent_of, state_after}
use Rattle.millicent_http.specs.Courses.{ServedAll, ServedSome}
use Rattle.wallet_model.specs.Follows.{IsWalletBook}
use Rattle.command_status.specs.declared.status.Status.{Status}
use Rattle.command_status.specs.declared.status.Status.TheVariants as ends
use Rattle.wallet_core.specs.OnDisk.{EncodesWallet, Untouched, NotOpened}
use Rattle.link_turns.specs.Sending.{TakesNoLink}
use Rattle.link_turns.specs.Orders.{InOrder, IsEither, InDoubt}
use Rattle.wallet_proxy.specs.declared.links.ProxyOut.{ProxyOut}
use Rattle.wallet_proxy.specs.declared.links.ProxyOut.TheVariants as outs
use Rattle.wallet_proxy.specs.Proxy.{ProxyState, history_of, Bounds, ProxyStep}
use Rattle.wallet_proxy.specs.Laws.{spent, AsksNoMore, stopped_at}
use Rattle.wallet_proxy.specs.Links.{InDoubtLinks}

-- how it ends by what served the links
abbrev pub proxied_status : {O : Type 0} → ProxyOut O → Status
proxied_status (outs.Done x n paid) = ends.Proxied n paid
proxied_status (outs.Link x) = ends.LinkFault
proxied_status (outs.NoMemory x) = ends.NoMemory
proxied_status (outs.Halted d) = ends.DiskFault

-- The bytes of the book encoded the lawful history of this state, at its time; nothing was paid yet, and the links to the
-- vendor are these.
pub record EncodesState (bytes : List ℕ) (up : LinkView) (s : ProxyState) : Type 0 where
  pub stands : Encodes s.history bytes
  pub lawful : IsWalletBook s.history
  pub time' : s.time ≡ time s.history
  pub nothing : s.paid ≡ 0
  pub up' : s.up ≡ up

-- a crash pair: of before, with nothing sent, or in the order of these steps
abbrev pub ProxyPair : Type 0 → DiskView → ProxyState → List (Did ProxyState) → List ℕ → List ℕ → Type 0
ProxyPair tells before s steps image sent = (before.leaves image × (sent ≡ before.aside)) ⊎ InOrder history_of tells s before.aside steps image sent

-- From the history that the book encoded these steps led to the one that the disk encodes, which is lawful; what was paid is
-- within the budget. The links to the vendor are those of the last state: nothing was sent to him but requests of the book, at most
-- one for each step. Each crash pair is in order.
pub record ProxiedFrom {O : Type 0} (link : O → LinkView) (disk : O → DiskView) (bounds : Bounds) (bytes : List ℕ) (a b : O) (up now_up : LinkView) (s : ProxyState) (steps : List (Did ProxyState)) : Type 0 where
  pub encoded : EncodesState bytes up s
  pub left : EncodesWallet (disk b) (state_after s steps).history
  pub within : (state_after s steps).paid ≤ bounds.budget
  pub up' : now_up ≡ (state_after s steps).up
  pub asks : AsksNoMore bounds (length steps) s (state_after s steps)
  pub pairs : Ran (disk a) (disk b) (ProxyPair (IsSome (link a).sessions) (disk a) s steps)

-- After these steps a request was taken, and up to that moment the disk had not failed and each crash pair is in order. Then
-- these entries were added, the disk failed while the next one was written, and so much of the refusal was sent. The book with
-- them and with the one in doubt is lawful; what was paid, with what they say was paid, is within the budget; and nothing was sent to
-- the vendor but requests of the book, at most one for each step and one for that request.
pub record HaltedFrom {O : Type 0} (link : O → LinkView) (disk : O → DiskView) (bounds : Bounds) (bytes : List ℕ) (a b : O) (up now_up : LinkView) (s : ProxyState) (steps : List (Did ProxyState)) (added : List Entry) (e : Entry) (said : List ℕ) : Type 0 where
  pub encoded : EncodesState bytes up s
  pub leaves : (image : List ℕ) → (disk b).leaves image → IsEither ((state_after s steps).history ++ added) e image
  pub lawful : IsWalletBook ((state_after s steps).history ++ (added ++ e ∷ []))
  pub within : (state_after s steps).paid + spent (added ++ e ∷ []) ≤ bounds.budget
  pub asks : AsksNoMore bounds (length steps + 1) s (stopped_at (state_after s steps) added now_up)
  pub taken : O
  pub quiet : (disk taken).faults ≡ (disk a).faults
  pub aside : IsSome (link a).sessions → (disk taken).aside ≡ (disk a).aside ++ sent_of steps
  pub until : Ran (disk a) (disk taken) (ProxyPair (IsSome (link a).sessions) (disk a) s steps)
  pub rose : Rose (disk taken).faults (disk b).faults
  pub since : Ran (disk taken) (disk b) (InDoubt (IsSome (link a).sessions) (state_after s steps).history (disk taken).aside (added ++ e ∷ []) said)

-- how the links of a book that was opened as that of a wallet were served
abbrev pub ProxiesLinksOf : {O : Type 0} → (O → LinkView) → (O → DiskView) → Bounds → ℕ → List ℕ → O → LinkView → Status → LinkView → O → Type 0
ProxiesLinksOf link disk bounds links bytes a up (ends.Proxied n paid) now_up b =
    (s : ProxyState) × (steps : List (Did ProxyState)) × ProxiedFrom link disk bounds bytes a b up now_up s steps
    × (paid ≡ (state_after s steps).paid) × ServedAll (ProxyStep bounds) OfLinks links n steps s (link a) (link b)
ProxiesLinksOf link disk bounds links bytes a up ends.LinkFault now_up b =
    (s : ProxyState) × (steps : List (Did ProxyState)) × ProxiedFrom link disk bounds bytes a b up now_up s steps
    × ServedSome (ProxyStep bounds) OfLinks links steps s (link a) (link b)
ProxiesLinksOf link disk bounds links bytes a up ends.DiskFault now_up b =
    (s : ProxyState) × (steps : List (Did ProxyState)) × (added : List Entry) × (e : Entry) × (said : List ℕ)
    × HaltedFrom link disk bounds bytes a b up now_up s steps added e said × InDoubtLinks bounds links steps s (link a) added e now_up said (link b)
ProxiesLinksOf link disk bounds links bytes a up ends.NoMemory now_up b = Untouched link disk a b × (now_up ≡ up)
ProxiesLinksOf link disk bounds links bytes a up _ now_up b = ⊥

-- How it ended, on an outside whose disk had these bytes: the book was not opened, and the links to the vendor are as they
-- were; or links were served so.
abbrev pub ProxiesBook : {O : Type 0} → (O → LinkView) → (O → DiskView) → Bounds → ℕ → List ℕ → O → LinkView → Status → LinkView → O → Type 0
ProxiesBook link disk bounds links bytes a up status now_up b =
    (NotOpened link disk bytes a status b × (now_up ≡ up)) ⊎ ProxiesLinksOf link disk bounds links bytes a up status now_up b

-- ---- why it ends so, whatever the disk and the links tell

-- no link was taken, the links to the vendor are as they were, and the disk did not fail
pub record Unserved {O : Type 0} (link : O → LinkView) (disk : O → DiskView) (a b : O) (up now_up : LinkView) : Type 0 where
  pub disk' : (disk b).faults ≡ (disk a).faults
  pub link' : link b ≡ link a
  pub up' : now_up ≡ up

-- The count of the disk's faults rose where the disk failed, and else it is what it was. A book that is bad (3) or of another
-- kind (52), and memory that was refused (5), are told before the first link. As many links were served as were asked
-- for, or fewer, where `next_link` has answered that no more come; `next_link` failed where a link was lost.
abbrev pub ProxyCauses : {O : Type 0} → (O → LinkView) → (O → DiskView) → ℕ → O → LinkView → Status → LinkView → O → Type 0
ProxyCauses link disk links a up ends.DiskFault now_up b = Rose (disk a).faults (disk b).faults
ProxyCauses link disk links a up ends.NotJournal now_up b = Unserved link disk a b up now_up
ProxyCauses link disk links a up (ends.BadEntry place) now_up b = Unserved link disk a b up now_up
ProxyCauses link disk links a up (ends.BadChain place) now_up b = Unserved link disk a b up now_up
ProxyCauses link disk links a up (ends.UnlawfulEntry place) now_up b = Unserved link disk a b up now_up
ProxyCauses link disk links a up (ends.Refused f) now_up b = (f ≡ refusals.WrongKind) × Unserved link disk a b up now_up
ProxyCauses link disk links a up ends.NoMemory now_up b = Unserved link disk a b up now_up
ProxyCauses link disk links a up (ends.Proxied n paid) now_up b =
    ((disk b).faults ≡ (disk a).faults) × ((link a).faults ≤ (link b).faults) × ((n ≡ links) ⊎ ((n < links) × IsTrue (link b).over))
ProxyCauses link disk links a up ends.LinkFault now_up b = ((disk b).faults ≡ (disk a).faults) × Rose (link a).faults (link b).faults × TakesNoLink link disk a b
ProxyCauses link disk links a up _ now_up b = ⊥
