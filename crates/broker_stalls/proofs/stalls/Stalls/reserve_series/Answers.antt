use Rattle.std.proofs.Common.{sym, subst}
use Rattle.std.specs.Prelude.{OnOk}
use Rattle.broker_stalls.specs.Stalls.{StallView, HasSeries}
use Rattle.broker_stalls.proofs.VendorLaws.{at_place, written_is, alike_at, same_stock}
use Rattle.broker_stalls.proofs.stalls.Stalls.reserve_series.Goals as goal

pub returns-in-Some-clause-room : goal.returns-in-Some-clause-room
returns-in-Some-clause-room c =
    let at = at_place c.get.ensures c.in-Some.is c.index_mut.ensures.value c.self.invariant in
    subst (λ (x : StallView). OnOk c.reserve_series.result (HasSeries x c.args.series)) (sym (written_is at c.reserve_series.new.self)) c.reserve_series.ensures.room

pub returns-in-Some-clause-same : goal.returns-in-Some-clause-same
returns-in-Some-clause-same c =
    let at = at_place c.get.ensures c.in-Some.is c.index_mut.ensures.value c.self.invariant in
    let e = c.reserve_series.ensures in
    alike_at c.self.view_is at c.reserve_series.new.self (same_stock c.index_mut.result.now c.reserve_series.new.self e.terms e.counts e.ids e.racks)
