use Rattle.std.proofs.Common.{◌-◌, ◌≡◌}
use Rattle.std.specs.Prelude.{IsTrue}
use Rattle.ledger_model.specs.Histories.{History}
use Rattle.house_core.specs.Bench.{limits_of, state_of}
use Rattle.house_core.specs.House.{HouseRepresents}
use Rattle.link_turns.specs.Sending.{KeptCounts}
use Rattle.house_serving.proofs.HouseLinkLemmas.{ServingHouse}
use Rattle.house_serving.proofs.links.serve_turns.Given as goal

abbrev pub invariant-turns : goal.invariant-turns
invariant-turns g l = record {
  stands : IsTrue (g.O.Link.link l.house.journal.disk).stands;
  counts : KeptCounts g.O.Link.link g.O.Disk.disk l.fn.house.journal.disk l.house.journal.disk;
  limits : limits_of l.house.bench ≡ limits_of l.fn.house.bench;
  serving : (h : History) → HouseRepresents g.O.Disk.disk g.T.Trade.trade l.fn.house h
      → ServingHouse g.O.Link.link g.O.Disk.disk g.T.Trade.trade (limits_of l.fn.house.bench) l.fn.house.journal.disk (state_of h l.fn.house.bench) l.house l.reader;
}

abbrev pub decreases-turns : goal.decreases-turns
decreases-turns g l = 1000 - l.reader.given
