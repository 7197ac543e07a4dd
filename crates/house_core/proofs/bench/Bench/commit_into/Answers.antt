use Rattle.std.proofs.Common.{◌≡◌, ◌∙◌, sym, ap, subst, ◌∷◌, ◌++◌, []}
use Rattle.mc_requests.specs.declared.limits.Limits.{Limits}
use Rattle.mc_requests.specs.Requests.{Asked}
use Rattle.mc_records.specs.Entry.{Entry}
use Rattle.mc_records.specs.Views.{entry}
use Rattle.scrip_journal.specs.Batches.{IsBatch}
use Rattle.house_core.specs.Bench.{house_time, limits_of}
use Rattle.house_state.specs.Verdicts.{authorized_entry}
use Rattle.house_core.specs.BenchView.{BenchView}
use Rattle.house_core.proofs.Accepting.{holds_roomed}
use Rattle.house_core.proofs.Committing.{may_as_before, new_as_before}
use Rattle.house_core.proofs.Contents.{contents_roomed}
use Rattle.house_core.proofs.bench.Bench.commit_into.Goals as goal

pub returns-in-Err-clause-exact : goal.returns-in-Err-clause-exact
returns-in-Err-clause-exact g c limits h st series most takes = holds_roomed g.T.Trade.trade _ _ h c.in-Err.ensures.same st

pub returns-in-None-clause-exact : goal.returns-in-None-clause-exact
returns-in-None-clause-exact g c limits h st series most takes = holds_roomed g.T.Trade.trade _ _ h c.in-Ok.ensures.same st

pub apply-requires-clause-new : goal.apply-requires-clause-new
apply-requires-clause-new g c = new_as_before c.in-Ok.ensures.same.state c.args.q.now c.args.authorization.now c.requires.new

pub apply-requires-clause-ready : goal.apply-requires-clause-ready
apply-requires-clause-ready g c = may_as_before c.in-Ok.ensures.same.state c.args.q.now.target c.args.authorization.now c.requires.ready

pub returns-in-Some-clause-gathered : goal.returns-in-Some-clause-gathered
returns-in-Some-clause-gathered g c h es is =
    let same : entry c.entry_of-record.result ≡ authorized_entry (house_time c.args.self.now) c.args.q.now.target c.args.authorization.now =
    rw (c.entry_of-record.ensures.same, (c.time.ensures ∙ ap (λ (b : BenchView g.row.T.Denot). b.state.time) c.self.view_is)) (ap (λ (q : Asked). authorized_entry (house_time c.args.self.now) q.target c.args.authorization.now) c.request.ensures) in
    subst (λ (e : Entry). IsBatch g.D.Disk.disk c.put.new.self h (es ++ e ∷ [])) same (c.in-Some.ensures.gathered h es is)

pub returns-in-Some-clause-exact : goal.returns-in-Some-clause-exact
returns-in-Some-clause-exact g c limits h st series most takes =
    let same = c.in-Ok.ensures.same in
    let time : house_time c.make_room.new.self ≡ house_time c.args.self.now = same.state.time in
    let still : limits.series ≡ (limits_of c.make_room.new.self).series = series ∙ ap (λ (l : Limits). l.series) (sym same.state.limits) in
    (rw time at (c.apply.ensures.exact limits h (holds_roomed g.T.Trade.trade _ _ h same st) (c.requires.brings h st.learned st.of_kind) still most)) takes

pub returns-in-Some-clause-contents : goal.returns-in-Some-clause-contents
returns-in-Some-clause-contents g c h st has in_force =
    let same = c.in-Ok.ensures.same in
    let time : house_time c.make_room.new.self ≡ house_time c.args.self.now = same.state.time in
    rw time at (c.apply.ensures.contents h (holds_roomed g.T.Trade.trade _ _ h same st) (contents_roomed g.T.Trade.trade _ _ h same has) in_force)
