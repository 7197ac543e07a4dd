use Rattle.house_core.specs.Bench.{limits_of, state_of}
use Rattle.house_serving.proofs.HouseTurnLemmas.{ReadOn}
use Rattle.house_serving.proofs.HouseLinkLemmas.{link_served, link_halted}
use Rattle.house_serving.proofs.links.serve_link.Goals as goal

pub returns-in-Ok-clause-served : goal.returns-in-Ok-clause-served
returns-in-Ok-clause-served g c h st =
    let x = c.in-Ok.house in
    let y = c.end_link.new.self in
    let on : ReadOn g.O.Link.link g.O.Disk.disk x y = record {
      tells = g.met.O.Outside.sent_aside;
      keeps = g.met.O.Outside.link_keeps _ _ c.end_link.ensures.moved.0;
      goes = g.met.O.Link.link_goes _ _ c.end_link.ensures.moved.0;
      rests = c.end_link.ensures.moved.1;
    } in
    link_served g.O.Link.link g.O.Disk.disk g.T.Trade.trade (limits_of c.args.house.bench) c.args.house.journal.disk (state_of h c.args.house.bench) x y _ on c.end_link.ensures.ended (c.in-Ok.ensures.ended h st)

pub returns-in-Err-clause-served : goal.returns-in-Err-clause-served
returns-in-Err-clause-served g c h st =
    let moved = c.end_link-in-Err.ensures.moved in
    link_halted g.O.Link.link g.O.Disk.disk g.T.Trade.trade (limits_of c.args.house.bench) c.args.house.journal.disk (state_of h c.args.house.bench) c.in-Err.halted _
    g.met.O.Outside.sent_aside (g.met.O.Outside.link_keeps _ _ moved) (g.met.O.Link.link_goes _ _ moved) c.end_link-in-Err.ensures.ended (c.in-Err.ensures.ended h st)
