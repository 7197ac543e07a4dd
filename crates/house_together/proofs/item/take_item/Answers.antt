use Rattle.std.proofs.Common.{◌++◌, refl, sym, subst}
use Rattle.millicent_http.specs.declared.item.HeadOut.TheVariants as outs
use Rattle.link_turns.proofs.TurnLemmas.{head_target, leads_so}
use Rattle.house_core.specs.Bench.{limits_of, state_of}
use Rattle.house_together.specs.Ahead.{TakesAhead}
use Rattle.house_together.specs.declared.item.Taken.{Taken}
use Rattle.house_together.proofs.AheadLemmas.{ahead_kept, head_ahead, refused_taken}
use Rattle.house_together.proofs.item.take_item.Goals as goal

pub answer_request-to-requires-clause-target : goal.answer_request-to-requires-clause-target
answer_request-to-requires-clause-target g c = rw c.of.ensures (head_target c.args.reader.now _ _ c.in-Head.q c.in-Head.after _ c.take.result c.take.follows.holds-at-none c.in-Head.is)

pub returns-in-Head-clause-taken : goal.returns-in-Head-clause-taken
returns-in-Head-clause-taken g c h es ahead =
    let limits = limits_of c.args.bench.now in
    let v = g.O.Link.link c.args.batch.now.disk in
    let s = state_of (h ++ es) c.args.bench.now in
    let kept = ahead_kept g.O.Disk.disk g.T.Trade.trade c.args.bench.now c.args.batch.now c.take.new.k h es (g.met.O.Sides.link_keeps _ _ c.take.ensures.moved.0) c.take.ensures.moved.1 ahead in
    subst (λ (t : Taken). TakesAhead g.O.Link.link g.O.Disk.disk g.T.Trade.trade limits v s h es c.args.at c.args.out.now c.args.reader.now c.answer_request-to.new.bench c.answer_request-to.new.batch c.answer_request-to.new.out c.take.follows.lender-at-none t) (sym c.taken_of.ensures)
    (head_ahead g.O.Link.link g.O.Disk.disk g.T.Trade.trade limits c.in-Head.q c.in-Head.after v (g.O.Link.link c.take.new.k.disk) s h es c.args.at c.args.out.now c.answer_request-to.new.out c.args.reader.now c.take.follows.lender-at-none c.answer_request-to.new.bench c.answer_request-to.new.batch c.answer_request-to.result c.take.result
    c.take.follows.holds-at-none c.in-Head.is ((rw c.of.ensures at c.answer_request-to.ensures.answered) h es kept))

pub returns-in-Refused-clause-taken : goal.returns-in-Refused-clause-taken
returns-in-Refused-clause-taken g c h es ahead =
    let limits = limits_of c.args.bench.now in
    let v = g.O.Link.link c.args.batch.now.disk in
    let s = state_of (h ++ es) c.args.bench.now in
    let kept = ahead_kept g.O.Disk.disk g.T.Trade.trade c.args.bench.now c.args.batch.now c.take.new.k h es (g.met.O.Sides.link_keeps _ _ c.take.ensures.moved.0) c.take.ensures.moved.1 ahead in
    subst (λ (t : Taken). TakesAhead g.O.Link.link g.O.Disk.disk g.T.Trade.trade limits v s h es c.args.at c.args.out.now c.args.reader.now c.answer_refused-to.new.bench c.answer_refused-to.new.batch c.answer_refused-to.new.out c.take.follows.lender-at-none t) (sym c.taken_of-in-Refused.ensures)
    (refused_taken g.O.Link.link g.O.Disk.disk g.T.Trade.trade limits c.in-Refused.head c.in-Refused.after v (g.O.Link.link c.take.new.k.disk) s h es c.args.at c.args.out.now c.answer_refused-to.new.out c.args.reader.now c.take.follows.lender-at-none c.answer_refused-to.new.bench c.answer_refused-to.new.batch c.answer_refused-to.result c.take.result
    c.take.follows.holds-at-none c.in-Refused.is (c.answer_refused-to.ensures.answered h es kept))

pub returns-in-End-clause-taken : goal.returns-in-End-clause-taken
returns-in-End-clause-taken g c h es ahead =
    let took = c.take.follows.holds-at-none in
    let leads = leads_so c.args.reader.now _ c.take.result outs.End _ _ took c.in-End.is in
    let kept = ahead_kept g.O.Disk.disk g.T.Trade.trade c.args.bench.now c.args.batch.now c.take.new.k h es (g.met.O.Sides.link_keeps _ _ c.take.ensures.moved.0) c.take.ensures.moved.1 ahead in
    (took.got, leads.1, leads.2, kept, refl, refl)

pub returns-in-Fault-clause-taken : goal.returns-in-Fault-clause-taken
returns-in-Fault-clause-taken g c h es ahead =
    let took = c.take.follows.holds-at-none in
    let leads = leads_so c.args.reader.now _ c.take.result outs.Fault _ _ took c.in-Fault.is in
    let kept = ahead_kept g.O.Disk.disk g.T.Trade.trade c.args.bench.now c.args.batch.now c.take.new.k h es (g.met.O.Sides.link_keeps _ _ c.take.ensures.moved.0) c.take.ensures.moved.1 ahead in
    (took.got, leads.1, leads.2, kept, refl, refl)
