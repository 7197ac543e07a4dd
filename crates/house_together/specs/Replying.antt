-- A reply of a round that is sent on a slot's link.
use Rattle.std.specs.Prelude.{false, ◌≡◌, ◌≢◌, ℕ, ◌<◌, ◌≤◌, List, [], ◌∷◌, ◌++◌, IsSome, IsTrue}
use Rattle.mc_outside.specs.DiskView.{DiskView, LinkKeeps}
use Rattle.link_slots.specs.SlotsView.{SlotsView}
use Rattle.millicent_http.specs.Steps.{Did, state_after}
use Rattle.ledger_model.specs.Histories.{History}
use Rattle.scrip_journal.specs.Batches.{InBatch, IsBatch}
use Rattle.link_rounds.specs.Rounds.{MovedByRounds}
use Rattle.house_core.specs.Session.{State}
use Rattle.millicent_http.specs.declared.item.After.{After}
use Rattle.mc_outside.specs.LinkView.{LinkView}
use Rattle.std.specs.List.{slice_range}
use Rattle.link_turns.specs.declared.turn.Turn.{Turn}
use Rattle.link_turns.specs.declared.turn.Turn.TheVariants.{GoOn}
use Rattle.house_together.specs.declared.replies.Due.{Due}
use Rattle.link_turns.specs.Turns.{Sent}

-- The reply was sent on this slot's link, or a proper prefix of it where sending failed. The other slots stay, and the disk; and
-- where the links tell what was sent, it is behind all that was sent.
pub record SendsDue {O : Type 0} (slots : O → SlotsView) (disk : O → DiskView) (p : ℕ) (reply : List ℕ) (after : After) (a b : O) (turn : Turn) : Type 0 where
  pub part : List ℕ
  pub sent : Sent after reply turn part ((slots a).slot p) ((slots b).slot p)
  pub others : (q : ℕ) → q ≢ p → (slots b).slot q ≡ (slots a).slot q
  pub count' : (slots b).count ≡ (slots a).count
  pub at' : (slots b).at ≡ p
  pub keeps : LinkKeeps (disk a) (disk b)
  pub aside : IsSome ((slots a).slot p).sessions → (disk b).aside ≡ (disk a).aside ++ part

-- a link that goes on stands; any other is ended
abbrev pub left_by : Turn → LinkView → LinkView
left_by GoOn v = v
left_by _ v = record v { stands = false }

-- The reply was sent on this slot's link, or not the whole of it, and the link goes on or was ended. The other slots stay, and
-- the disk; and where the links tell what was sent, it is behind all that was sent.
pub record RepliesDue {O : Type 0} (slots : O → SlotsView) (disk : O → DiskView) (p : ℕ) (reply : List ℕ) (after : After) (a b : O) (turn : Turn) : Type 0 where
  pub part : List ℕ
  pub link' : LinkView
  pub sent : Sent after reply turn part ((slots a).slot p) link'
  pub now : (slots b).slot p ≡ left_by turn link'
  pub others : (q : ℕ) → q ≢ p → (slots b).slot q ≡ (slots a).slot q
  pub count' : (slots b).count ≡ (slots a).count
  pub keeps : LinkKeeps (disk a) (disk b)
  pub aside : IsSome ((slots a).slot p).sessions → (disk b).aside ≡ (disk a).aside ++ part

-- the reply that is due, by the outbox
abbrev pub reply_in : List ℕ → Due → List ℕ
reply_in out d = slice_range out d.from d.to

-- The replies of a round were sent, one after another, each with this turn.
abbrev pub RepliesRound : {O : Type 0} → (O → SlotsView) → (O → DiskView) → List ℕ → List Due → List Turn → O → O → Type 0
RepliesRound slots disk out [] [] a b = b ≡ a
RepliesRound {O} slots disk out (d ∷ ds) (t ∷ ts) a c = (b : O) × RepliesDue slots disk d.slot (reply_in out d) d.after a b t × RepliesRound slots disk out ds ts b c
RepliesRound slots disk out _ _ a b = ⊥

-- ---- what is due

-- no reply is due on this slot
abbrev pub NoneDue : ℕ → List Due → Type 0
NoneDue p [] = Unit {0}
NoneDue p (d ∷ ds) = (d.slot ≢ p) × NoneDue p ds

-- On the slot of each a link stands, on which no other is due, and its reply lies in the outbox, which has so many bytes.
abbrev pub AreDue : SlotsView → ℕ → List Due → Type 0
AreDue v size [] = Unit {0}
AreDue v size (d ∷ ds) = ((d.slot < v.count) × (d.from ≤ d.to) × (d.to ≤ size)) × IsTrue (v.slot d.slot).stands × NoneDue d.slot ds × AreDue v size ds

-- ---- what was sent

-- the links of all slots tell their bytes
abbrev pub AllTell : SlotsView → Type 0
AllTell v = (q : ℕ) → IsSome (v.slot q).sessions

-- so much was sent of each reply
abbrev pub parts_of : {O : Type 0} (slots : O → SlotsView) (disk : O → DiskView) (out : List ℕ) (ds : List Due) (ts : List Turn) (a c : O) → RepliesRound slots disk out ds ts a c → List (List ℕ)
parts_of slots disk out [] [] a c r = []
parts_of slots disk out [] (t ∷ ts) a c r = absurd r
parts_of slots disk out (d ∷ ds) [] a c r = absurd r
parts_of slots disk out (d ∷ ds) (t ∷ ts) a c r = r.1.part ∷ parts_of slots disk out ds ts r.0 c r.2

abbrev pub joined : List (List ℕ) → List ℕ
joined [] = []
joined (p ∷ ps) = p ++ joined ps

-- these steps sent these parts
abbrev pub SentParts : {S : Type 0} → List (Did S) → List (List ℕ) → Type 0
SentParts [] [] = Unit {0}
SentParts (d ∷ ds) (p ∷ ps) = (d.sent ≡ p) × SentParts ds ps
SentParts _ _ = ⊥

-- ---- a round that was committed and replied to

-- the history of a state
abbrev pub history_of : State → History
history_of s = s.history

-- A round's entries, gathered behind this history, stand, and its replies were sent. Whatever state the round began in, and whatever
-- its steps were that sent these parts: each crash pair is in order by rounds.
pub record FinishesRound {O : Type 0} (slots : O → SlotsView) (disk : O → DiskView) (out : List ℕ) (dues : List Due) (a : O) (h es : History) (b : InBatch O) : Type 0 where
  pub stands : IsBatch disk b (h ++ es) []
  pub committed : O
  pub turns : List Turn
  pub replied : RepliesRound slots disk out dues turns committed b.disk
  pub moved : (s : State) (steps : List (Did State)) → s.history ≡ h → (state_after s steps).history ≡ h ++ es → SentParts steps (parts_of slots disk out dues turns committed b.disk replied)
      → MovedByRounds history_of (AllTell (slots committed)) (disk a) (disk b.disk) s (steps ∷ [])
