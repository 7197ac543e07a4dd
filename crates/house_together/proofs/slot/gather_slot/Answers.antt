use Rattle.std.proofs.Common.{◌≡◌, ◌++◌, Bool, false, refl, sym, ap, ◌∙◌, subst}
use Rattle.std.specs.Prelude.{if◌then◌else◌}
use Rattle.mc_outside.specs.LinkView.{LinkView, next_taken, none_left}
use Rattle.millicent_http.specs.Held.{Held}
use Rattle.house_core.specs.Bench.{limits_of, state_of}
use Rattle.house_together.specs.Ahead.{TakesAhead}
use Rattle.house_together.specs.Gathered.{on_link, held_on}
use Rattle.house_together.proofs.AheadLemmas.{ahead_kept}
use Rattle.house_together.proofs.slot.gather_slot.Goals as goal

pub returns-then-stands-clause-gathered : goal.returns-then-stands-clause-gathered
returns-then-stands-clause-gathered g c h es ahead =
    let v = g.O.Link.link c.args.batch.now.disk in
    let t = c.take_item in
    subst (λ (b : Bool). TakesAhead g.O.Link.link g.O.Disk.disk g.T.Trade.trade (limits_of c.args.bench.now) (on_link b v) (state_of (h ++ es) c.args.bench.now) h es c.args.at c.args.out.now (held_on b c.args.reader.now) t.new.bench t.new.batch t.new.out t.new.reader t.result)
    (sym c.if-stands.true) (t.ensures.taken h es ahead)

pub returns-in-Ok-true-clause-gathered : goal.returns-in-Ok-true-clause-gathered
returns-in-Ok-true-clause-gathered g c h es ahead =
    let v = g.O.Link.link c.args.batch.now.disk in
    let t = c.take_item-in-Ok-true in
    let m = c.next_link.new.self in
    let kept = ahead_kept g.O.Disk.disk g.T.Trade.trade c.args.bench.now c.args.batch.now m h es (g.met.O.Sides.link_keeps _ _ c.next_link.ensures.moved.0) c.next_link.ensures.moved.1 ahead in
    let taken : g.O.Link.link m.disk ≡ next_taken v = c.in-Ok-true.ensures.taken ∙ ap (λ (b : Bool). if b then next_taken v else none_left v) c.in-Ok-true.field-0-test in
    let limits = limits_of c.args.bench.now in
    let s = state_of (h ++ es) c.args.bench.now in
    subst (λ (b : Bool). TakesAhead g.O.Link.link g.O.Disk.disk g.T.Trade.trade limits (on_link b v) s h es c.args.at c.args.out.now (held_on b c.args.reader.now) t.new.bench t.new.batch t.new.out t.new.reader t.result) (sym c.if-stands.false)
    (subst (λ (u : LinkView). TakesAhead g.O.Link.link g.O.Disk.disk g.T.Trade.trade limits u s h es c.args.at c.args.out.now (held_on false c.args.reader.now) t.new.bench t.new.batch t.new.out t.new.reader t.result) taken
    (subst (λ (x : Held). TakesAhead g.O.Link.link g.O.Disk.disk g.T.Trade.trade limits (g.O.Link.link m.disk) s h es c.args.at c.args.out.now x t.new.bench t.new.batch t.new.out t.new.reader t.result) c.restart.ensures
    (t.ensures.taken h es kept)))

pub returns-in-Ok-false-clause-gathered : goal.returns-in-Ok-false-clause-gathered
returns-in-Ok-false-clause-gathered g c h es ahead =
    let v = g.O.Link.link c.args.batch.now.disk in (
      c.if-stands.false,
      c.in-Ok-false.ensures.taken ∙ ap (λ (b : Bool). if b then next_taken v else none_left v) c.in-Ok-false.field-0-test,
      ahead_kept g.O.Disk.disk g.T.Trade.trade c.args.bench.now c.args.batch.now c.next_link.new.self h es (g.met.O.Sides.link_keeps _ _ c.next_link.ensures.moved.0) c.next_link.ensures.moved.1 ahead,
      refl,
      refl,
    )

pub returns-in-Err-clause-gathered : goal.returns-in-Err-clause-gathered
returns-in-Err-clause-gathered g c h es ahead = (
  c.if-stands.false,
  record { same = c.in-Err.ensures.failed; rose = c.in-Err.ensures.cause.rose },
  ahead_kept g.O.Disk.disk g.T.Trade.trade c.args.bench.now c.args.batch.now c.next_link.new.self h es (g.met.O.Sides.link_keeps _ _ c.next_link.ensures.moved.0) c.next_link.ensures.moved.1 ahead,
  refl,
  refl,
)
