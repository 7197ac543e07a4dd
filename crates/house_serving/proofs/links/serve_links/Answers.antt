use Rattle.std.proofs.Common.{◌≡◌, ◌+◌, refl, arith, ap, ◌∙◌, inl, inr}
use Rattle.mc_outside.specs.LinkView.{LinkView}
use Rattle.house_core.specs.BenchView.{BenchView}
use Rattle.house_core.specs.Bench.{limits_of, state_of}
use Rattle.link_turns.proofs.CauseLemmas.{counts_none, counts_link, counts_then, rose_then}
use Rattle.link_turns.proofs.OrderLemmas.{went_nowhere}
use Rattle.house_serving.specs.Orders.{outside_of, history_of, StandsAt}
use Rattle.house_serving.proofs.HouseOrders.{house_leaves}
use Rattle.house_serving.proofs.HouseTurnLemmas.{ReadOn, stands_at}
use Rattle.house_serving.proofs.HouseLinkLemmas.{linked_starts, linked_goes_on, linked_house_all, linked_house_over, linked_house_broke, linked_house_halts}
use Rattle.house_serving.proofs.links.serve_links.Goals as goal

pub returns-in_default-clause-served : goal.returns-in_default-clause-served
returns-in_default-clause-served g c h st =
    let disk = g.O.Disk.disk in
    let trade = g.T.Trade.trade in (
      went_nowhere g.O.Link.link disk outside_of (StandsAt disk trade) history_of (house_leaves disk trade) g.met.O.Outside.sent_aside c.args.house (state_of h c.args.house.bench) (g.met.O.Disk.is_disk _) (stands_at disk trade c.args.house h st),
      refl,
    )

pub links-init : goal.links-init
links-init g c = record {
  few = omega arith;
  counts = counts_none g.O.Link.link g.O.Disk.disk c.args.house.journal.disk;
  limits = refl;
  linked = λ h st. linked_starts g.O.Link.link g.O.Disk.disk g.T.Trade.trade (limits_of c.args.house.bench) c.args.house h g.met.O.Outside.sent_aside (g.met.O.Disk.is_disk _) st;
}

pub links-preserved : goal.links-preserved
links-preserved g c =
    let x = c.links.house in
    let y = c.next_link.new.self in
    let on : ReadOn g.O.Link.link g.O.Disk.disk x y = record {
      tells = g.met.O.Outside.sent_aside;
      keeps = g.met.O.Outside.link_keeps _ _ c.next_link.ensures.moved.0;
      goes = g.met.O.Link.link_goes _ _ c.next_link.ensures.moved.0;
      rests = c.next_link.ensures.moved.1;
    } in
    let taken = rw c.in-Ok-true.field-0-test at c.in-Ok-true.ensures.taken in
    let same : limits_of y.bench ≡ limits_of c.args.house.bench = ap (λ (b : BenchView g.row.T.Denot). limits_of b) on.rests.bench ∙ c.links.invariant.limits in
    record {
      few = omega (arith, c.links-test.true);
      counts = counts_then g.O.Link.link g.O.Disk.disk _ _ _ c.links.invariant.counts (counts_then g.O.Link.link g.O.Disk.disk _ _ _ (counts_link g.O.Link.link g.O.Disk.disk _ _ on.keeps on.goes) c.in-Ok-serve_link.ensures.causes);
      limits = c.in-Ok-serve_link.ensures.limits ∙ same;
      linked = λ h st. linked_goes_on g.O.Link.link g.O.Disk.disk g.T.Trade.trade (limits_of c.args.house.bench) c.links.served (c.links.served + 1) c.args.house.journal.disk (state_of h c.args.house.bench) x y _
          (omega arith) on taken same (c.links.invariant.linked h st) c.in-Ok-serve_link.ensures.served;
    }

pub returns-in-Err-serve_link-clause-causes : goal.returns-in-Err-serve_link-clause-causes
returns-in-Err-serve_link-clause-causes g c =
    let x = c.links.house in
    let y = c.next_link.new.self in
    let on : ReadOn g.O.Link.link g.O.Disk.disk x y = record {
      tells = g.met.O.Outside.sent_aside;
      keeps = g.met.O.Outside.link_keeps _ _ c.next_link.ensures.moved.0;
      goes = g.met.O.Link.link_goes _ _ c.next_link.ensures.moved.0;
      rests = c.next_link.ensures.moved.1;
    } in
    rose_then g.O.Link.link g.O.Disk.disk _ _ _ c.links.invariant.counts (rose_then g.O.Link.link g.O.Disk.disk _ _ _ (counts_link g.O.Link.link g.O.Disk.disk _ _ on.keeps on.goes) c.in-Err-serve_link.ensures.causes)

pub returns-in-Err-serve_link-clause-served : goal.returns-in-Err-serve_link-clause-served
returns-in-Err-serve_link-clause-served g c h st =
    let x = c.links.house in
    let y = c.next_link.new.self in
    let on : ReadOn g.O.Link.link g.O.Disk.disk x y = record {
      tells = g.met.O.Outside.sent_aside;
      keeps = g.met.O.Outside.link_keeps _ _ c.next_link.ensures.moved.0;
      goes = g.met.O.Link.link_goes _ _ c.next_link.ensures.moved.0;
      rests = c.next_link.ensures.moved.1;
    } in
    let taken = rw c.in-Ok-true.field-0-test at c.in-Ok-true.ensures.taken in
    let same : limits_of y.bench ≡ limits_of c.args.house.bench = ap (λ (b : BenchView g.row.T.Denot). limits_of b) on.rests.bench ∙ c.links.invariant.limits in
    linked_house_halts g.O.Link.link g.O.Disk.disk g.T.Trade.trade (limits_of c.args.house.bench) c.args.links c.links.served c.args.house.journal.disk (state_of h c.args.house.bench) x y _
    c.links-test.true on taken same (c.links.invariant.linked h st) c.in-Err-serve_link.ensures.served

pub returns-in-Ok-false-clause-served : goal.returns-in-Ok-false-clause-served
returns-in-Ok-false-clause-served g c h st =
    let x = c.links.house in
    let y = c.next_link.new.self in
    let on : ReadOn g.O.Link.link g.O.Disk.disk x y = record {
      tells = g.met.O.Outside.sent_aside;
      keeps = g.met.O.Outside.link_keeps _ _ c.next_link.ensures.moved.0;
      goes = g.met.O.Link.link_goes _ _ c.next_link.ensures.moved.0;
      rests = c.next_link.ensures.moved.1;
    } in
    let over = rw c.in-Ok-false.field-0-test at c.in-Ok-false.ensures.taken in
    linked_house_over g.O.Link.link g.O.Disk.disk g.T.Trade.trade (limits_of c.args.house.bench) c.args.links c.links.served c.args.house.journal.disk (state_of h c.args.house.bench) x y
    c.links-test.true on over (c.links.invariant.linked h st)

pub returns-in-Ok-false-clause-enough : goal.returns-in-Ok-false-clause-enough
returns-in-Ok-false-clause-enough g c =
    let over = rw c.in-Ok-false.field-0-test at c.in-Ok-false.ensures.taken in
    inr (c.links-test.true, ap (λ (v : LinkView). v.over) over)

pub returns-in-Err-clause-causes : goal.returns-in-Err-clause-causes
returns-in-Err-clause-causes g c = record {
  before = c.links.house.journal.disk;
  counts = c.links.invariant.counts;
  keeps = g.met.O.Outside.link_keeps _ _ c.next_link.ensures.moved.0;
  fault = record { same = c.in-Err.ensures.failed; rose = c.in-Err.ensures.cause.rose };
}

pub returns-in-Err-clause-served : goal.returns-in-Err-clause-served
returns-in-Err-clause-served g c h st =
    let x = c.links.house in
    let y = c.next_link.new.self in
    let on : ReadOn g.O.Link.link g.O.Disk.disk x y = record {
      tells = g.met.O.Outside.sent_aside;
      keeps = g.met.O.Outside.link_keeps _ _ c.next_link.ensures.moved.0;
      goes = g.met.O.Link.link_goes _ _ c.next_link.ensures.moved.0;
      rests = c.next_link.ensures.moved.1;
    } in
    linked_house_broke g.O.Link.link g.O.Disk.disk g.T.Trade.trade (limits_of c.args.house.bench) c.args.links c.links.served c.args.house.journal.disk (state_of h c.args.house.bench) x y
    c.links-test.true on (record { same = c.in-Err.ensures.failed; rose = c.in-Err.ensures.cause.rose }) (c.links.invariant.linked h st)

pub returns-clause-served : goal.returns-clause-served
returns-clause-served g c h st =
    linked_house_all g.O.Link.link g.O.Disk.disk g.T.Trade.trade (limits_of c.args.house.bench) c.args.links c.links.served c.args.house.journal.disk (state_of h c.args.house.bench) c.links.house
    (omega (arith, c.links-test.false, c.links.invariant.few)) (c.links.invariant.linked h st)

pub returns-clause-enough : goal.returns-clause-enough
returns-clause-enough g c = inl (omega (arith, c.links-test.false, c.links.invariant.few))
