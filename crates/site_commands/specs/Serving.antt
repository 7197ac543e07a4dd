-- What serving the book of a site does, up to the line that is said.
use Rattle.std.specs.Prelude.{◌<◌, ◌≤◌, ◌≡◌, ◌⊎◌, IsTrue, ℕ, List, [], ◌∷◌, ◌++◌, Some, IsSome}
use Rattle.mc_outside.specs.Bytes.{Rose, BeginsWith}
use Rattle.mc_outside.specs.DiskView.{DiskView, OnlyRead, Ran}
use Rattle.mc_outside.specs.LinkView.{LinkView}
use Rattle.mc_records.specs.Entry.{Entry}
use Rattle.mc_requests.specs.declared.refusal.Refusal.TheVariants as refusals
use Rattle.ledger_model.specs.Histories.{History, time}
use Rattle.ledger_model.specs.Houses.{site_kind}
use Rattle.ledger_model.specs.Lawful.{IsLawful}
use Rattle.ledger_model.specs.Laws.{AreDistinct}
use Rattle.ledger_model.specs.Pieces.{accepted}
use Rattle.scrip_journal.specs.Layout.{header, Encodes}
use Rattle.millicent_http.specs.declared.clock.Clock.TheVariants.{OfLinks}
use Rattle.millicent_http.specs.Steps.{Did, sent_of, state_after}
use Rattle.millicent_http.specs.Courses.{ServedAll, ServedSome}
use Rattle.link_turns.specs.Sending.{TakesNoLink}
use Rattle.link_turns.specs.Orders.{InOrder, IsEither, InDoubt}
use Rattle.house_state.specs.Learning.{Test}
use Rattle.house_opening.specs.Opening.{SpoilsAt, UnchainsAt, IsUnlawfulAt, IsOfOther}
use Rattle.house_core.specs.Session.{State, Step}
use Rattle.house_serving.specs.Orders.{history_of}
use Rattle.house_serving.specs.InDoubt.{InDoubtLinks}
use Rattle.command_status.specs.declared.status.Status.{Status}
use Rattle.command_status.specs.declared.status.Status.TheVariants as ends
use Rattle.operator_command.specs.Operations.{full}

-- the bytes of the book encoded the history of this state, which is of a site of this kind, at its time
pub record EncodesState (kind : ℕ) (bytes : List ℕ) (s : State) : Type 0 where
  pub stands : Encodes s.history bytes
  pub of_kind : site_kind s.history ≡ Some kind
  pub time' : s.time ≡ time s.history

-- The disk tells bytes that encode a lawful history, in which no identity was accepted twice, and so does
-- each image that a crash may leave now.
pub record EncodesLawful (d : DiskView) (h : History) : Type 0 where
  pub bytes : List ℕ
  pub told : d.contents ≡ Some bytes
  pub stands : Encodes h bytes
  pub lawful : IsLawful full h
  pub once : AreDistinct (accepted h)
  pub lasts : (image : List ℕ) → d.leaves image → Encodes h image

-- The disk tells bytes that encode a lawful history of a site of this kind.
pub record HasSite (kind : ℕ) (d : DiskView) : Type 0 where
  pub history : History
  pub bytes : List ℕ
  pub told : d.contents ≡ Some bytes
  pub stands : Encodes history bytes
  pub lawful : IsLawful full history
  pub of_kind : site_kind history ≡ Some kind

-- Each image that a crash may leave encodes the history with the entry or without it. With it the history
-- is lawful, and no identity was accepted twice in it.
pub record EncodesEither (d : DiskView) (h : History) (e : Entry) : Type 0 where
  pub leaves : (image : List ℕ) → d.leaves image → IsEither h e image
  pub lawful : IsLawful full (h ++ e ∷ [])
  pub once : AreDistinct (accepted (h ++ e ∷ []))

-- a crash pair: of before, with nothing sent, or in the order of these steps
abbrev pub ServePair : Type 0 → DiskView → State → List (Did State) → List ℕ → List ℕ → Type 0
ServePair tells before s steps image sent = (before.leaves image × (sent ≡ before.aside)) ⊎ InOrder history_of tells s before.aside steps image sent

-- From the history that the book encoded these steps led to the one that the disk encodes, and each
-- crash pair is in order.
pub record ServedFrom {O : Type 0} (link : O → LinkView) (disk : O → DiskView) (kind : ℕ) (bytes : List ℕ) (a b : O) (s : State) (steps : List (Did State)) : Type 0 where
  pub encoded : EncodesState kind bytes s
  pub left : EncodesLawful (disk b) (state_after s steps).history
  pub pairs : Ran (disk a) (disk b) (ServePair (IsSome (link a).sessions) (disk a) s steps)

-- After these steps a request was taken, and up to that moment the disk had not failed and each crash pair is
-- in order. Then the disk failed while this entry was written, which may follow, and so much of the refusal
-- was sent.
pub record HaltedFrom {O : Type 0} (link : O → LinkView) (disk : O → DiskView) (kind : ℕ) (bytes : List ℕ) (a b : O) (s : State) (steps : List (Did State)) (e : Entry) (said : List ℕ) : Type 0 where
  pub encoded : EncodesState kind bytes s
  pub left : EncodesEither (disk b) (state_after s steps).history e
  pub taken : O
  pub quiet : (disk taken).faults ≡ (disk a).faults
  pub aside : IsSome (link a).sessions → (disk taken).aside ≡ (disk a).aside ++ sent_of steps
  pub until : Ran (disk a) (disk taken) (ServePair (IsSome (link a).sessions) (disk a) s steps)
  pub rose : Rose (disk taken).faults (disk b).faults
  pub since : Ran (disk taken) (disk b) (InDoubt (IsSome (link a).sessions) (state_after s steps).history (disk taken).aside (e ∷ []) said)

-- no link was taken, and the book was only read
pub record Unserved {O : Type 0} (link : O → LinkView) (disk : O → DiskView) (a b : O) : Type 0 where
  pub link' : link b ≡ link a
  pub read : OnlyRead (disk a) (disk b)

-- a chain in the book, at this place, is another than the one computed
abbrev pub HasOtherChain : Test → ℕ → List ℕ → ℕ → Type 0
HasOtherChain passes kind bytes place = (stood : List ℕ) × (computed : List ℕ) × UnchainsAt passes full kind bytes place stood computed

-- why a book was not opened as that of a site of a kind, for a trade with this test of Notes: by its bytes, or since
-- the disk failed or memory was refused; then it was only read, and no link was taken
abbrev pub NotOpened : {O : Type 0} → (O → LinkView) → (O → DiskView) → Test → ℕ → List ℕ → O → Status → O → Type 0
NotOpened link disk passes kind bytes a ends.DiskFault b = Unserved link disk a b
NotOpened link disk passes kind bytes a ends.NoMemory b = Unserved link disk a b
NotOpened link disk passes kind bytes a ends.NotJournal b = (BeginsWith header bytes → ⊥) × Unserved link disk a b
NotOpened link disk passes kind bytes a (ends.BadEntry place) b = SpoilsAt passes full kind bytes place × Unserved link disk a b
NotOpened link disk passes kind bytes a (ends.BadChain place) b = HasOtherChain passes kind bytes place × Unserved link disk a b
NotOpened link disk passes kind bytes a (ends.UnlawfulEntry place) b = IsUnlawfulAt passes full kind bytes place × Unserved link disk a b
NotOpened link disk passes kind bytes a (ends.Refused f) b = (f ≡ refusals.WrongKind) × IsOfOther kind bytes × Unserved link disk a b
NotOpened link disk passes kind bytes a _ b = ⊥

-- how the links of a book that was opened as that of a site of a kind were served
abbrev pub ServesLinksOf : {O : Type 0} → (O → LinkView) → (O → DiskView) → ℕ → ℕ → List ℕ → O → Status → O → Type 0
ServesLinksOf link disk kind links bytes a (ends.Served n) b =
    (s : State) × (steps : List (Did State)) × ServedFrom link disk kind bytes a b s steps × ServedAll (Step full) OfLinks links n steps s (link a) (link b)
ServesLinksOf link disk kind links bytes a ends.LinkFault b =
    (s : State) × (steps : List (Did State)) × ServedFrom link disk kind bytes a b s steps × ServedSome (Step full) OfLinks links steps s (link a) (link b)
ServesLinksOf link disk kind links bytes a ends.DiskFault b =
    (s : State) × (steps : List (Did State)) × (e : Entry) × (said : List ℕ) × HaltedFrom link disk kind bytes a b s steps e said × InDoubtLinks full links steps s (link a) e said (link b)
ServesLinksOf link disk kind links bytes a ends.NoMemory b = Unserved link disk a b
ServesLinksOf link disk kind links bytes a _ b = ⊥

-- how serving so many links by the book of a site of a kind ended, on an outside whose disk had these bytes
abbrev pub ServesBook : {O : Type 0} → (O → LinkView) → (O → DiskView) → Test → ℕ → ℕ → List ℕ → O → Status → O → Type 0
ServesBook link disk passes kind links bytes a status b = NotOpened link disk passes kind bytes a status b ⊎ ServesLinksOf link disk kind links bytes a status b

-- ---- why a command over a book ends so, whatever the disk and the links tell

-- The count of the disk's faults rose where the disk failed, and else it is what it was. A book that is bad (3) or of another
-- kind (52) is told with the links as they were. `Own` says of what else the command may end with.
abbrev pub BookCauses : {O : Type 0} → (O → LinkView) → (O → DiskView) → (Status → O → O → Type 0) → O → Status → O → Type 0
BookCauses link disk Own a ends.DiskFault b = Rose (disk a).faults (disk b).faults
BookCauses link disk Own a ends.NotJournal b = ((disk b).faults ≡ (disk a).faults) × (link b ≡ link a)
BookCauses link disk Own a (ends.BadEntry place) b = ((disk b).faults ≡ (disk a).faults) × (link b ≡ link a)
BookCauses link disk Own a (ends.BadChain place) b = ((disk b).faults ≡ (disk a).faults) × (link b ≡ link a)
BookCauses link disk Own a (ends.UnlawfulEntry place) b = ((disk b).faults ≡ (disk a).faults) × (link b ≡ link a)
BookCauses link disk Own a (ends.Refused f) b = ((disk b).faults ≡ (disk a).faults) × (((f ≡ refusals.WrongKind) × (link b ≡ link a)) ⊎ Own (ends.Refused f) a b)
BookCauses link disk Own a status b = ((disk b).faults ≡ (disk a).faults) × Own status a b

-- Serving so many links ends so too. As many were served as were asked for, or fewer, where `next_link` has answered that
-- no more come; the count of the links' faults did not fall then. `next_link` failed where a link was lost. Memory was
-- refused before the first link.
abbrev pub ServeEnds : {O : Type 0} → (O → LinkView) → (O → DiskView) → ℕ → Status → O → O → Type 0
ServeEnds link disk links (ends.Served n) a b = ((link a).faults ≤ (link b).faults) × ((n ≡ links) ⊎ ((n < links) × IsTrue (link b).over))
ServeEnds link disk links ends.LinkFault a b = Rose (link a).faults (link b).faults × TakesNoLink link disk a b
ServeEnds link disk links ends.NoMemory a b = link b ≡ link a
ServeEnds link disk links _ a b = ⊥

abbrev pub ServeCauses : {O : Type 0} → (O → LinkView) → (O → DiskView) → ℕ → O → Status → O → Type 0
ServeCauses link disk links a status b = BookCauses link disk (ServeEnds link disk links) a status b
