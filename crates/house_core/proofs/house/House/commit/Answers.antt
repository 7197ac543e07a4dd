use Rattle.std.proofs.Common.{◌≡◌, ◌∙◌, ◌<◌, ◌+◌, length, refl, sym, ap, subst}
use Rattle.mc_outside.specs.DiskView.{Ran}
use Rattle.mc_requests.specs.declared.limits.Limits.{Limits}
use Rattle.mc_records.specs.Entry.{Entry, payload}
use Rattle.mc_requests.specs.Requests.{Asked}
use Rattle.mc_records.specs.Sizes.{size, entry_size}
use Rattle.mc_records.specs.Views.{entry}
use Rattle.scrip_journal.specs.States.{AtRest}
use Rattle.scrip_journal.specs.Exits.{EitherNoOutput}
use Rattle.house_core.specs.BenchView.{BenchView}
use Rattle.house_core.specs.HouseView.{HouseView}
use Rattle.house_core.specs.Bench.{house_time, limits_of}
use Rattle.house_state.specs.Verdicts.{authorized_entry, payload_of}
use Rattle.house_core.proofs.Accepting.{holds_roomed}
use Rattle.house_core.proofs.Committing.{may_as_before, new_as_before, held_as, asked_for_it, payload_is}
use Rattle.house_core.proofs.Contents.{contents_roomed}
use Rattle.house_core.proofs.HouseDisk.{ran_nothing, as_roomed, has_entered, not_full_of}
use Rattle.house_core.proofs.house.House.commit.Goals as goal

pub returns-in-Err-clause-back : goal.returns-in-Err-clause-back
returns-in-Err-clause-back g c = rw (← c.self.view_is) (
    let same = c.in-Err.ensures.same.state in
    record { moved' = g.met.D.Disk.disk_stays c.self.inside.journal.disk; keeps = record { time = same.time; limits = same.limits }; counts = refl })

pub returns-in-Err-clause-exact : goal.returns-in-Err-clause-exact
returns-in-Err-clause-exact g c = rw (← c.self.view_is) (λ h st in_force brings takes.
    as_roomed g.D.Disk.disk g.T.Trade.trade _ _ h refl c.in-Err.ensures.same st)

pub apply-number-requires-clause-ready : goal.apply-number-requires-clause-ready
apply-number-requires-clause-ready g c = may_as_before c.in-Ok.ensures.same.state c.args.q.now.target c.args.authorization (rw (← c.self.view_is) at c.requires.ready)

pub apply-number-requires-clause-held : goal.apply-number-requires-clause-held
apply-number-requires-clause-held g c = held_as (g.T.Trade.trade c.self.inside.bench.trade).holds (g.T.Trade.trade c.make_room.new.self.trade).holds c.in-Ok.ensures.same.held c.args.authorization (rw (← c.self.view_is) at c.requires.held)

pub apply-number-requires-clause-new : goal.apply-number-requires-clause-new
apply-number-requires-clause-new g c = new_as_before c.in-Ok.ensures.same.state c.args.q.now c.args.authorization (rw (← c.self.view_is) at c.requires.new)

pub returns-in-Ok-append-clause-exact : goal.returns-in-Ok-append-clause-exact
returns-in-Ok-append-clause-exact g c = rw (← c.self.view_is) (λ h st in_force brings takes.
    let a = c.args.authorization in
    let same = c.in-Ok.ensures.same in
    let time : house_time c.make_room.new.self ≡ house_time c.self.inside.bench = same.state.time in
    let limits : limits_of c.make_room.new.self ≡ limits_of c.self.inside.bench = same.state.limits in
    let is : entry c.entry_of-record.result ≡ authorized_entry (house_time c.self.inside.bench) c.args.q.now.target c.args.authorization = rw (c.entry_of-record.ensures.same, (c.time.ensures ∙ ap (λ (b : BenchView g.row.T.Denot). b.state.time) c.bench.view_is)) (ap (λ (q : Asked). authorized_entry (house_time c.self.inside.bench) q.target c.args.authorization) c.request.ensures) in
    let st' = holds_roomed g.T.Trade.trade _ _ h same st.house.represents in
    let after : HouseView g.row.D.Denot g.row.T.Denot = record { journal = c.in-Ok-append.journal; bench = c.apply-number.new.self } in
    let entered = (rw time at (c.apply-number.ensures.exact (limits_of c.self.inside.bench) h st' brings (ap (λ (l : Limits). l.series) (sym limits)) st.house.represents.state.limits.journal_most)) takes in
    let contents = rw time at (c.apply-number.ensures.contents h st' (contents_roomed g.T.Trade.trade _ _ h same st.house.contents) in_force) in
    let wrote = c.in-Ok-append.ensures in (
      has_entered g.D.Disk.disk g.T.Trade.trade _ after h (authorized_entry (house_time c.self.inside.bench) c.args.q.now.target a) (entry c.entry_of-record.result)
          c.apply-number.result is st (wrote.written h st.journal).0 wrote.limit (c.apply-number.ensures.limits ∙ limits) entered.0 entered.1 contents,
      rw c.into_fresh.ensures (asked_for_it st.house.represents.state c.args.q.now a (rw (← c.self.view_is) at c.requires.new) (rw (← c.self.view_is) at c.requires.ready) (c.apply-number.ensures.time ∙ time)),
    ))

pub returns-in-Ok-append-clause-ran : goal.returns-in-Ok-append-clause-ran
returns-in-Ok-append-clause-ran g c = rw (← c.self.view_is) (λ h st.
    let is : entry c.entry_of-record.result ≡ authorized_entry (house_time c.self.inside.bench) c.args.q.now.target c.args.authorization = rw (c.entry_of-record.ensures.same, (c.time.ensures ∙ ap (λ (b : BenchView g.row.T.Denot). b.state.time) c.bench.view_is)) (ap (λ (q : Asked). authorized_entry (house_time c.self.inside.bench) q.target c.args.authorization) c.request.ensures) in
    subst (λ (e : Entry). Ran (g.D.Disk.disk c.self.inside.journal.disk) (g.D.Disk.disk c.in-Ok-append.journal.disk) (EitherNoOutput h e (g.D.Disk.disk c.self.inside.journal.disk).aside)) is (c.in-Ok-append.ensures.ran h st.journal))

pub returns-in-Err-Full-clause-exact : goal.returns-in-Err-Full-clause-exact
returns-in-Err-Full-clause-exact g c = rw (← c.self.view_is) (λ h st in_force brings takes.
    let is : entry c.entry_of-record.result ≡ authorized_entry (house_time c.self.inside.bench) c.args.q.now.target c.args.authorization = rw (c.entry_of-record.ensures.same, (c.time.ensures ∙ ap (λ (b : BenchView g.row.T.Denot). b.state.time) c.bench.view_is)) (ap (λ (q : Asked). authorized_entry (house_time c.self.inside.bench) q.target c.args.authorization) c.request.ensures) in
    let full : c.self.inside.journal.limit < size h + entry_size h (entry c.entry_of-record.result) = rw c.in-Err-Full.field-0-is at (c.in-Err-Full.ensures.full h st.journal.size_is st.journal.switched_is) in
    let long = payload_is c.self.inside.bench.state c.args.q.now.target c.args.authorization (rw (← c.self.view_is) at c.requires.ready) ∙ ap (λ (e : Entry). length (payload e)) (sym is) in
    absurd (not_full_of c.self.inside.bench.state h c.self.inside.journal.limit (payload_of c.args.authorization) (entry c.entry_of-record.result) st.house.represents.state long (rw (← c.self.view_is) at c.requires.room) st.limit full))

pub returns-in-Err-Full-clause-ran : goal.returns-in-Err-Full-clause-ran
returns-in-Err-Full-clause-ran g c = rw (← c.self.view_is) (λ h st.
    let same : c.in-Err-Full.journal ≡ c.self.inside.journal = rw c.in-Err-Full.field-0-is at c.in-Err-Full.ensures.fault in
    ran_nothing g.D.Disk.disk c.self.inside.journal _ h (g.met.D.Disk.is_disk c.self.inside.journal.disk) st.journal (ap (λ (j : AtRest g.row.D.Denot). j.disk) (c.in-Err-Full.journal-is ∙ same)))

pub returns-clause-ran : goal.returns-clause-ran
returns-clause-ran g c = rw (← c.self.view_is) (λ h st.
    let is : entry c.entry_of-record.result ≡ authorized_entry (house_time c.self.inside.bench) c.args.q.now.target c.args.authorization = rw (c.entry_of-record.ensures.same, (c.time.ensures ∙ ap (λ (b : BenchView g.row.T.Denot). b.state.time) c.bench.view_is)) (ap (λ (q : Asked). authorized_entry (house_time c.self.inside.bench) q.target c.args.authorization) c.request.ensures) in
    let ran : Ran (g.D.Disk.disk c.self.inside.journal.disk) (g.D.Disk.disk c.in-Err-Disk.halted) (EitherNoOutput h (entry c.entry_of-record.result) (g.D.Disk.disk c.self.inside.journal.disk).aside) = rw c.in-Err-Disk.field-0-is at (c.in-Err-Disk.ensures.ran h st.journal) in
    subst (λ (d : g.row.D.Denot). Ran (g.D.Disk.disk c.self.inside.journal.disk) (g.D.Disk.disk d) (EitherNoOutput h (authorized_entry (house_time c.self.inside.bench) c.args.q.now.target c.args.authorization) (g.D.Disk.disk c.self.inside.journal.disk).aside)) (sym c.in-Err-Disk.halted-is)
    (subst (λ (e : Entry). Ran (g.D.Disk.disk c.self.inside.journal.disk) (g.D.Disk.disk c.in-Err-Disk.halted) (EitherNoOutput h e (g.D.Disk.disk c.self.inside.journal.disk).aside)) is ran))

pub apply-number-requires-clause-is : goal.apply-number-requires-clause-is
apply-number-requires-clause-is g c =
    rw c.in-Ok.ensures.same.state.time (rw (c.entry_of-record.ensures.same, (c.time.ensures ∙ ap (λ (b : BenchView g.row.T.Denot). b.state.time) c.bench.view_is)) (ap (λ (q : Asked). authorized_entry (house_time c.self.inside.bench) q.target c.args.authorization) c.request.ensures))

pub returns-in-Err-clause-ran : goal.returns-in-Err-clause-ran
returns-in-Err-clause-ran g c = rw (← c.self.view_is) (λ h st.
    ran_nothing g.D.Disk.disk c.self.inside.journal _ h (g.met.D.Disk.is_disk _) st.journal refl)
