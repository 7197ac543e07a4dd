-- A house that works by steps over a journal: no reply begins before its entry is there.
use Rattle.std.specs.Prelude.{◌≡◌, ℕ, List, []}
use Rattle.mc_outside.specs.DiskView.{DiskView}
use Rattle.mc_outside.specs.LinkView.{LinkView}
use Rattle.mc_records.specs.Entry.{Entry}
use Rattle.ledger_model.specs.Histories.{History}
use Rattle.millicent_http.specs.Steps.{Did}
use Rattle.link_turns.specs.Orders.{WentBy, HaltedBy}
use Rattle.house_core.specs.HouseView.{HouseView}
use Rattle.house_core.specs.Bench.{house_time}
use Rattle.house_core.specs.House.{HouseRepresents}
use Rattle.house_core.specs.Session.{State}
use Rattle.house_state.specs.Trade.{TradeView}

-- the outside that a house stands on
abbrev pub outside_of : {O T : Type 0} → HouseView O T → O
outside_of x = x.journal.disk

abbrev pub history_of : State → History
history_of s = s.history

-- a house is in this state
pub record StandsAt {O T : Type 0} (disk : O → DiskView) (trade : T → TradeView) (x : HouseView O T) (s : State) : Type 0 where
  pub house : HouseRepresents disk trade x s.history
  pub time : house_time x.bench ≡ s.time

-- A house came from this state to what it is by these steps, while the disk did not fail, and each crash
-- pair is in order.
abbrev pub RefinesBy : {O T : Type 0} → (O → LinkView) → (O → DiskView) → (T → TradeView) → O → State → List (Did State) → HouseView O T → Type 0
RefinesBy link disk trade a s steps x = WentBy link disk outside_of (StandsAt disk trade) history_of a s steps x

-- After some steps a request was taken, and up to that moment the disk had not failed and each crash pair is
-- in order. Then the disk failed while this entry was written, and so much of the refusal was sent.
abbrev pub HouseHalted : {O : Type 0} → (O → LinkView) → (O → DiskView) → O → State → List (Did State) → Entry → List ℕ → O → Type 0
HouseHalted link disk a s steps e said d = HaltedBy link disk history_of a s steps [] e said d
