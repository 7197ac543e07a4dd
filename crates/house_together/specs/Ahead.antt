-- An item that is answered in memory, ahead of the disk.
use Rattle.std.specs.Prelude.{◌≡◌, ℕ, ◌+◌, ◌<◌, List, [], ◌∷◌, ◌++◌, length, take, Option, Some, None}
use Rattle.mc_outside.specs.DiskView.{DiskView}
use Rattle.mc_outside.specs.LinkView.{LinkView, after_recv, after_eof, Failed}
use Rattle.mc_requests.specs.declared.limits.Limits.{Limits}
use Rattle.ledger_model.specs.Histories.{History}
use Rattle.scrip_journal.specs.Batches.{InBatch}
use Rattle.millicent_http.specs.declared.clock.Clock.TheVariants.{OfLinks}
use Rattle.millicent_http.specs.declared.item.After.{After}
use Rattle.millicent_http.specs.Items.{Item, EndsNoItem}
use Rattle.millicent_http.specs.Held.{Held}
use Rattle.millicent_http.specs.Takes.{TookItem}
use Rattle.millicent_http.specs.Courses.{AreRead, with_readings}
use Rattle.house_state.specs.Trade.{TradeView}
use Rattle.house_core.specs.BenchView.{BenchView}
use Rattle.house_core.specs.Bench.{state_of}
use Rattle.house_core.specs.Session.{State, Step}
use Rattle.house_core.specs.Gathering.{IsAhead, ReachesAhead}
use Rattle.house_together.specs.declared.item.Taken.{Taken}
use Rattle.house_together.specs.declared.item.Taken.TheVariants.{Answered, NoRoom, End, Fault}

-- a reply was written at a place of the outbox, whose front stays; or there was no room for it
abbrev pub IsWritten : ℕ → List ℕ → List ℕ → List ℕ → Option ℕ → Type 0
IsWritten at reply old new (Some to) = (to ≡ at + length reply) × (take to new ≡ take at old ++ reply)
IsWritten at reply old new None = (length old < at + length reply) × (new ≡ old)

-- From this link and a house that is ahead of the disk, at a reading of the links' clock, an item was answered in memory by a session's step, and its
-- reply lies in the outbox. The disk was not touched, and nothing was sent.
pub record AnsweredAhead {O T : Type 0} (link : O → LinkView) (disk : O → DiskView) (trade : T → TradeView) (limits : Limits) (Is : Item → Type 0) (v : LinkView) (s : State) (h : History) (at : ℕ) (old : List ℕ) (b : BenchView T) (batch : InBatch O) (new : List ℕ) (result : Option ℕ) : Type 0 where
  pub reading : ℕ
  pub read : AreRead OfLinks (reading ∷ []) v.readings (link batch.disk).readings
  pub rest : link batch.disk ≡ with_readings (link batch.disk).readings v
  pub reply : List ℕ
  pub reaches : ReachesAhead disk trade (λ t. (item : Item) → Is item → Step limits s reading item reply t) b batch h
  pub written : IsWritten at reply old new result

-- an item with its reply in the outbox up to a place, or without room for it
abbrev pub taken_of : Option ℕ → After → Taken
taken_of (Some to) after = Answered to after
taken_of None after = NoRoom after

-- What came of the next item of a link: from these bytes held and this link on it was taken and answered so; or what came ended
-- no item, and the link was at its end, or failed; the house is then in the state in which it was.
abbrev pub TakesAhead : {O T : Type 0} → (O → LinkView) → (O → DiskView) → (T → TradeView) → Limits → LinkView → State → History → History → ℕ → List ℕ → Held → BenchView T → InBatch O → List ℕ → Held → Taken → Type 0
TakesAhead link disk trade limits v s h es at old held b batch new now (Answered to after) =
    (more : List ℕ) × (item : Item) × TookItem (held.bytes ++ more) held.given item after now
    × AnsweredAhead link disk trade limits (λ i. i ≡ item) (after_recv more v) s h at old b batch new (Some to)
TakesAhead link disk trade limits v s h es at old held b batch new now (NoRoom after) =
    (more : List ℕ) × (item : Item) × TookItem (held.bytes ++ more) held.given item after now
    × AnsweredAhead link disk trade limits (λ i. i ≡ item) (after_recv more v) s h at old b batch new None
TakesAhead link disk trade limits v s h es at old held b batch new now End =
    (more : List ℕ) × EndsNoItem (held.bytes ++ more) × (link batch.disk ≡ after_eof (after_recv more v)) × IsAhead disk trade b batch h es × (state_of (h ++ es) b ≡ s) × (new ≡ old)
TakesAhead link disk trade limits v s h es at old held b batch new now Fault =
    (more : List ℕ) × EndsNoItem (held.bytes ++ more) × Failed (after_recv more v) (link batch.disk) × IsAhead disk trade b batch h es × (state_of (h ++ es) b ≡ s) × (new ≡ old)
