use Rattle.std.proofs.Common.{◌≡◌, inl, inr, refl, arith, sym, ap, ◌∙◌, ℕ, ◌-◌, List, subst, take, drop}
use Rattle.std.specs.Prelude.{slice_range}
use Rattle.mc_outside.proofs.Sessions.{heard_none}
use Rattle.mc_outside.specs.LinkView.{LinkView, after_recv}
use Rattle.reply_reader.specs.Arrivals.{Stopped}
use Rattle.reply_reader.proofs.ArrivalLemmas.{part_stays, contents_more, contents_stop, front_of_front}
use Rattle.reply_reader.proofs.arrival.await_contents.Goals as goal

pub loop-held-init : goal.loop-held-init
loop-held-init g c = record {
  size = refl;
  moved = g.met.K.Link.link_stays c.args.k.now;
  order = omega arith;
  within = omega (arith, c.requires.held, c.args.buf.now.ok);
  front = refl;
  link = let e : c.args.held - c.args.held ≡ 0 = omega arith in
      heard_none (g.K.Link.link c.args.k.now) ∙ ap (λ (n : ℕ). after_recv (take n (drop c.args.held c.args.buf.now.items)) (g.K.Link.link c.args.k.now)) (sym e);
  waited = inl refl;
}

pub loop-held-preserved : goal.loop-held-preserved
loop-held-preserved g c =
    let more = c.in-Ok.ensures.within in
    record {
      size = c.receive.ensures.len ∙ c.loop-held.invariant.size;
      moved = g.met.K.Link.link_goes_on c.args.k.now c.loop-held.k c.receive.new.k c.loop-held.invariant.moved c.receive.ensures.moved;
      order = omega (arith, c.loop-held.invariant.order, more.0);
      within = more.1;
      front = front_of_front c.loop-held.buf.items c.receive.new.buf.items c.args.held c.loop-held.held c.loop-held.invariant.order c.receive.ensures.front ∙ c.loop-held.invariant.front;
      link = contents_more (g.K.Link.link c.args.k.now) (g.K.Link.link c.loop-held.k) (g.K.Link.link c.receive.new.k) c.loop-held.buf.items c.receive.new.buf.items c.args.held c.loop-held.held c.in-Ok.more
          c.loop-held.invariant.order more.0 c.receive.ensures.front c.loop-held.invariant.link c.in-Ok.ensures.piece;
      waited = inr (c.loop-held.held, c.loop-held.invariant.order, omega (arith, more.0), c.loop-held-test.true);
    }

pub returns-in-Err-clause-arrives : goal.returns-in-Err-clause-arrives
returns-in-Err-clause-arrives g c = record {
  now = c.loop-held.held;
  order = c.loop-held.invariant.order;
  within = omega (arith, c.receive.ensures.len, c.loop-held.invariant.within);
  front = front_of_front c.loop-held.buf.items c.receive.new.buf.items c.args.held c.loop-held.held c.loop-held.invariant.order c.receive.ensures.front ∙ c.loop-held.invariant.front;
  waited = c.loop-held.invariant.waited;
  ends = contents_stop c.loop-held.held c.args.whole c.in-Err.fault (after_recv (slice_range c.receive.new.buf.items c.args.held c.loop-held.held) (g.K.Link.link c.args.k.now)) (g.K.Link.link c.receive.new.k) c.loop-held-test.true
      (subst (λ (v : LinkView). Stopped c.in-Err.fault v (g.K.Link.link c.receive.new.k))
      (c.loop-held.invariant.link ∙ ap (λ (z : List ℕ). after_recv z (g.K.Link.link c.args.k.now)) (sym (part_stays c.loop-held.buf.items c.receive.new.buf.items c.args.held c.loop-held.held c.loop-held.invariant.order c.receive.ensures.front)))
      c.in-Err.ensures.stopped);
}
