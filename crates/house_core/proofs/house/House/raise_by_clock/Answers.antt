use Rattle.house_core.proofs.HouseDisk.{house_keeps}
use Rattle.house_core.proofs.house.House.raise_by_clock.Goals as goal

pub returns-clause-stands : goal.returns-clause-stands
returns-clause-stands g c h st =
    c.raise-time.ensures.same h (house_keeps g.O.Disk.disk g.T.Trade.trade c.args.self.now c.now-reading.new.self h st
    (g.met.O.Outside.link_keeps _ _ c.now-reading.ensures.moved.0) c.now-reading.ensures.moved.1)
