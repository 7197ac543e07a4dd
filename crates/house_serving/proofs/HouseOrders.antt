-- A house in a state.
use Rattle.std.proofs.Common.{ℕ, List, ap, ◌∙◌}
use Rattle.mc_outside.specs.DiskView.{DiskView, LinkKeeps}
use Rattle.scrip_journal.specs.Layout.{Encodes}
use Rattle.scrip_journal.specs.Rests.{journal_leaves}
use Rattle.house_core.specs.BenchView.{BenchView}
use Rattle.house_core.specs.HouseView.{HouseView}
use Rattle.house_core.specs.Bench.{house_time}
use Rattle.house_core.specs.House.{HouseRests}
use Rattle.house_core.proofs.HouseDisk.{house_keeps}
use Rattle.house_core.specs.Session.{State}
use Rattle.house_serving.specs.Orders.{StandsAt}
use Rattle.house_state.specs.Trade.{TradeView}

-- a crash now leaves what encodes the history
pub house_leaves : {O T : Type 0} (disk : O → DiskView) (trade : T → TradeView) (x : HouseView O T) (s : State) → StandsAt disk trade x s → (c : List ℕ) → (disk x.journal.disk).leaves c → Encodes s.history c
house_leaves disk trade x s st c l = journal_leaves disk x.journal s.history st.house.journal c l

-- what links do leaves it in its state
pub stands_kept : {O T : Type 0} (disk : O → DiskView) (trade : T → TradeView) (x y : HouseView O T) (s : State) → LinkKeeps (disk x.journal.disk) (disk y.journal.disk) → HouseRests x y → StandsAt disk trade x s → StandsAt disk trade y s
stands_kept {T = T} disk trade x y s keeps rests st = record {
  house = house_keeps disk trade x y s.history st.house keeps rests;
  time = ap (λ (b : BenchView T). house_time b) rests.bench ∙ st.time;
}
