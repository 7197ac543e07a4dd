use Rattle.std.proofs.Common.{◌-◌, ◌≡◌, ◌≤◌}
use Rattle.ledger_model.specs.Histories.{History}
use Rattle.house_core.specs.Bench.{limits_of, state_of}
use Rattle.house_core.specs.House.{HouseRepresents}
use Rattle.link_turns.specs.Sending.{KeptCounts}
use Rattle.house_serving.proofs.HouseLinkLemmas.{LinkedHouse}
use Rattle.house_serving.proofs.links.serve_links.Given as goal

abbrev pub invariant-links : goal.invariant-links
invariant-links g l = record {
  few : l.served ≤ l.fn.links;
  counts : KeptCounts g.O.Link.link g.O.Disk.disk l.fn.house.journal.disk l.house.journal.disk;
  limits : limits_of l.house.bench ≡ limits_of l.fn.house.bench;
  linked : (h : History) → HouseRepresents g.O.Disk.disk g.T.Trade.trade l.fn.house h
      → LinkedHouse g.O.Link.link g.O.Disk.disk g.T.Trade.trade (limits_of l.fn.house.bench) l.served l.fn.house.journal.disk (state_of h l.fn.house.bench) l.house;
}

abbrev pub decreases-links : goal.decreases-links
decreases-links g l = l.links - l.served
