-- What is gathered in a batch of a request that a house in memory answers.
use Rattle.std.specs.Prelude.{ℕ, [], ◌∷◌, ◌++◌, Result, Ok, Err}
use Rattle.mc_outside.specs.DiskView.{DiskView}
use Rattle.ledger_model.specs.Histories.{History}
use Rattle.ledger_model.specs.Answer.{Answer, Take}
use Rattle.scrip_journal.specs.Batches.{InBatch, IsBatch}
use Rattle.house_state.specs.Trade.{TradeView}
use Rattle.house_core.specs.BenchView.{BenchView}
use Rattle.house_core.specs.Bench.{IsHouse, state_of}
use Rattle.house_core.specs.Session.{State}

-- Of a request with this answer: its entry is gathered behind the others where it is entered; else none is.
abbrev pub Gathers : {D E : Type 0} → (D → DiskView) → InBatch D → History → History → Answer → Result ℕ E → Type 0
Gathers view b h es (Take e) (Ok n) = IsBatch view b h (es ++ e ∷ [])
Gathers view b h es _ _ = IsBatch view b h es

-- A house in memory is ahead of the disk: the first entries of its history stand there, the others are gathered.
pub record IsAhead {D T : Type 0} (view : D → DiskView) (trade : T → TradeView) (b : BenchView T) (batch : InBatch D) (h es : History) : Type 0 where
  pub house : IsHouse trade b (h ++ es)
  pub batch' : IsBatch view batch h es

-- it is ahead of the same entries now, in a state to which the relation leads
pub record ReachesAhead {D T : Type 0} (view : D → DiskView) (trade : T → TradeView) (Relates : State → Type 0) (b : BenchView T) (batch : InBatch D) (h : History) : Type 0 where
  pub gathered : History
  pub ahead : IsAhead view trade b batch h gathered
  pub related : Relates (state_of (h ++ gathered) b)
