use Rattle.std.proofs.Common.{◌≡◌, ◌∙◌, ◌<◌, ◌≤◌, ◌+◌, refl, sym, ap, arith}
use Rattle.std.specs.Prelude.{max}
use Rattle.mc_outside.specs.Bytes.{Rose}
use Rattle.mc_outside.specs.DiskView.{Ran}
use Rattle.mc_records.specs.Sizes.{size, entry_size}
use Rattle.mc_requests.specs.declared.limits.Limits.{Limits}
use Rattle.mc_records.specs.Entry.{moment_of}
use Rattle.mc_records.specs.Views.{entry}
use Rattle.scrip_journal.specs.States.{AtRest}
use Rattle.house_state.specs.Learning.{MayEnter}
use Rattle.scrip_journal.specs.Exits.{EitherNoOutput}
use Rattle.house_core.specs.HouseView.{HouseView}
use Rattle.house_core.specs.Bench.{house_time, limits_of}
use Rattle.house_core.proofs.Accepting.{holds_roomed}
use Rattle.house_core.proofs.Contents.{contents_roomed}
use Rattle.house_core.proofs.HouseDisk.{ran_nothing, stands_with, as_roomed, has_entered, not_full_of, may_tell, applied, time_stays}
use Rattle.house_core.proofs.house.House.enter.Goals as goal

pub returns-in-Err-clause-exact : goal.returns-in-Err-clause-exact
returns-in-Err-clause-exact g c = rw (← c.self.view_is) (λ h st.
    let raised : HouseView g.row.D.Denot g.row.T.Denot = record { journal = c.self.inside.journal; bench = c.raise.new.self } in
    let st' = stands_with g.D.Disk.disk g.T.Trade.trade _ c.raise.new.self h st (c.raise.ensures.same h st.house.represents) (c.raise.ensures.contents h st.house.represents st.house.contents) c.raise.ensures.limits in
    as_roomed g.D.Disk.disk g.T.Trade.trade raised _ h refl c.make_room_for.ensures.same st')

pub returns-in-Err-clause-ran : goal.returns-in-Err-clause-ran
returns-in-Err-clause-ran g c = rw (← c.self.view_is) (λ h st.
    ran_nothing g.D.Disk.disk c.self.inside.journal _ h (g.met.D.Disk.is_disk _) st.journal refl)

pub returns-in-Ok-append-clause-exact : goal.returns-in-Ok-append-clause-exact
returns-in-Ok-append-clause-exact g c = rw (← c.self.view_is) (λ h st.
    let same = c.make_room_for.ensures.same in
    let limits : limits_of c.make_room_for.new.self ≡ limits_of c.self.inside.bench = same.state.limits ∙ c.raise.ensures.limits in
    let st' = holds_roomed g.T.Trade.trade _ _ h same (c.raise.ensures.same h st.house.represents) in
    let has = contents_roomed g.T.Trade.trade _ _ h same (c.raise.ensures.contents h st.house.represents st.house.contents) in
    let after : HouseView g.row.D.Denot g.row.T.Denot = record { journal = c.in-Ok-append.journal; bench = c.apply_entry-applied.new.self } in
    let wrote = c.in-Ok-append.ensures in
    let may = (rw (← c.self.view_is) at c.requires.may) h st in
    let enters : MayEnter g.T.Trade.passes (limits_of c.self.inside.bench) h (entry c.args.r.now) = record { follows = may; passed = (rw (← c.self.view_is) at c.requires.passed) h st } in
    let both = applied c.apply_entry-applied.result _ _ _ _ _ _ enters (rw limits at (c.apply_entry-applied.ensures.exact h st' may.in_order (may_tell _ h _ may))) (c.apply_entry-applied.ensures.contents h st' has) in (
      has_entered g.D.Disk.disk g.T.Trade.trade _ after h (entry c.args.r.now) (entry c.args.r.now)
          c.in-Ok-append.receipt refl st (wrote.written h st.journal).0 wrote.limit (c.apply_entry-applied.ensures.limits ∙ limits) (wrote.written h st.journal).1 both.0 both.1,
      rw c.raise.ensures.limits at (c.in-Ok.ensures.fitted h (c.raise.ensures.same h st.house.represents)),
    ))

pub returns-in-Ok-append-clause-back : goal.returns-in-Ok-append-clause-back
returns-in-Ok-append-clause-back g c = rw (← c.self.view_is) (
    let same = c.make_room_for.ensures.same in
    let t = max (house_time c.self.inside.bench) (moment_of (entry c.args.r.now)) in
    let at : house_time c.make_room_for.new.self ≡ t = same.state.time ∙ c.raise.ensures.raised ∙ ap (max (house_time c.self.inside.bench)) c.moment.ensures in
    let come : moment_of (entry c.args.r.now) ≤ house_time c.make_room_for.new.self = omega (arith, at) in
    record {
      moved' = c.in-Ok-append.ensures.moved;
      keeps = record {
        time = time_stays c.apply_entry-applied.result _ _ _ come c.apply_entry-applied.ensures.time ∙ at;
        limits = c.apply_entry-applied.ensures.limits ∙ same.state.limits ∙ c.raise.ensures.limits;
      };
      counts = c.in-Ok-append.ensures.same_count;
    })

pub returns-in-Err-Full-clause-exact : goal.returns-in-Err-Full-clause-exact
returns-in-Err-Full-clause-exact g c = rw (← c.self.view_is) (λ h st.
    let same = c.make_room_for.ensures.same in
    let st' = holds_roomed g.T.Trade.trade _ _ h same (c.raise.ensures.same h st.house.represents) in
    let full : c.self.inside.journal.limit < size h + entry_size h (entry c.args.r.now) = rw c.in-Err-Full.field-0-is at (c.in-Err-Full.ensures.full h st.journal.size_is st.journal.switched_is) in
    absurd (not_full_of c.make_room_for.new.self.state h c.self.inside.journal.limit c.in-Ok.bytes (entry c.args.r.now) st'.state c.in-Ok.ensures.len c.in-Ok.ensures.fits
    (st.limit ∙ ap (λ (l : Limits). l.journal) (sym (same.state.limits ∙ c.raise.ensures.limits))) full))

pub returns-in-Err-Full-clause-ran : goal.returns-in-Err-Full-clause-ran
returns-in-Err-Full-clause-ran g c = rw (← c.self.view_is) (λ h st.
    let same : c.in-Err-Full.journal ≡ c.self.inside.journal = rw c.in-Err-Full.field-0-is at c.in-Err-Full.ensures.fault in
    ran_nothing g.D.Disk.disk c.self.inside.journal _ h (g.met.D.Disk.is_disk c.self.inside.journal.disk) st.journal (ap (λ (j : AtRest g.row.D.Denot). j.disk) same))

pub returns-in-Err-Disk-clause-exact : goal.returns-in-Err-Disk-clause-exact
returns-in-Err-Disk-clause-exact g c = rw (← c.self.view_is) (λ h st.
    let rose : Rose (g.D.Disk.disk c.self.inside.journal.disk).faults (g.D.Disk.disk c.in-Err-Disk.halted).faults = rw c.in-Err-Disk.field-0-is at c.in-Err-Disk.ensures.fault in
    ((rw (← c.self.view_is) at c.requires.may) h st, rose, rw c.raise.ensures.limits at (c.in-Ok.ensures.fitted h (c.raise.ensures.same h st.house.represents))))

pub returns-in-Err-Disk-clause-ran : goal.returns-in-Err-Disk-clause-ran
returns-in-Err-Disk-clause-ran g c = rw (← c.self.view_is) (λ h st.
    let ran : Ran (g.D.Disk.disk c.self.inside.journal.disk) (g.D.Disk.disk c.in-Err-Disk.halted) (EitherNoOutput h (entry c.args.r.now) (g.D.Disk.disk c.self.inside.journal.disk).aside) = rw c.in-Err-Disk.field-0-is at (c.in-Err-Disk.ensures.ran h st.journal) in
    ran)

pub returns-in-Ok-append-clause-ran : goal.returns-in-Ok-append-clause-ran
returns-in-Ok-append-clause-ran g c = rw (← c.self.view_is) (λ h st.
    c.in-Ok-append.ensures.ran h st.journal)

pub returns-in-Err-Refused-clause-exact : goal.returns-in-Err-Refused-clause-exact
returns-in-Err-Refused-clause-exact g c = rw (← c.self.view_is) (λ h st.
    let raised : HouseView g.row.D.Denot g.row.T.Denot = record { journal = c.self.inside.journal; bench = c.raise.new.self } in
    let st' = stands_with g.D.Disk.disk g.T.Trade.trade _ c.raise.new.self h st (c.raise.ensures.same h st.house.represents) (c.raise.ensures.contents h st.house.represents st.house.contents) c.raise.ensures.limits in
    let fault = rw c.in-Err-Refused.field-0-is at (c.in-Err-Refused.ensures.fault h (c.raise.ensures.same h st.house.represents) (may_tell _ h _ ((rw (← c.self.view_is) at c.requires.may) h st))) in
    (rw c.raise.ensures.limits at fault.0, as_roomed g.D.Disk.disk g.T.Trade.trade raised _ h refl c.in-Err-Refused.ensures.same st'))

pub returns-in-Err-Refused-clause-refusals : goal.returns-in-Err-Refused-clause-refusals
returns-in-Err-Refused-clause-refusals g c = rw c.in-Err-Refused.field-0-is at c.in-Err-Refused.ensures.refusals

pub returns-in-Err-Refused-clause-ran : goal.returns-in-Err-Refused-clause-ran
returns-in-Err-Refused-clause-ran g c = rw (← c.self.view_is) (λ h st.
    ran_nothing g.D.Disk.disk c.self.inside.journal _ h (g.met.D.Disk.is_disk _) st.journal refl)
