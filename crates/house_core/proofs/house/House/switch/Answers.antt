use Rattle.std.proofs.Common.{◌≡◌, ◌∙◌, ◌<◌, ◌+◌, ◌≤◌, false, None, Some, refl, sym, ap, subst, arith}
use Rattle.mc_outside.specs.Bytes.{Rose}
use Rattle.mc_outside.specs.DiskView.{Ran}
use Rattle.mc_requests.specs.declared.limits.Limits.{Limits}
use Rattle.mc_records.specs.Chains.{chain, first_chain, has_switch}
use Rattle.mc_records.specs.Entry.{Switch}
use Rattle.mc_records.specs.Sizes.{size, entry_size}
use Rattle.mc_records.proofs.ChainLaws.{length-chain}
use Rattle.ledger_model.specs.Stages.{fitted_by}
use Rattle.scrip_journal.specs.Exits.{EitherNoOutput}
use Rattle.scrip_journal.specs.declared.switching.TheConstants.{SWITCH_PAYLOAD}
use Rattle.scrip_journal.proofs.SwitchLaws.{switch_long}
use Rattle.house_state.specs.HouseState.{size_with, tail_of}
use Rattle.house_state.proofs.Tabled.{fitted_stands}
use Rattle.house_core.specs.HouseView.{HouseView}
use Rattle.house_core.specs.Bench.{house_time, limits_of}
use Rattle.house_core.specs.declared.outcome.Outcome.TheVariants.{Done, Halted}
use Rattle.house_core.specs.Tasks.{Task, Performs, TellsAdded, switch_task}
use Rattle.house_core.proofs.HouseDisk.{not_full_of, applied, time_stays}
use Rattle.house_core.proofs.RefusingLemmas.{full_among}
use Rattle.house_core.proofs.SwitchLemmas.{asks_none, asks_switch, may_switch, may_enter, has_switched}
use Rattle.house_core.proofs.TaskLemmas.{enters, unfitted, stays, tells_last}
use Rattle.house_core.proofs.house.House.switch.Goals as goal

pub returns-then-is_switched-clause-exact : goal.returns-then-is_switched-clause-exact
returns-then-is_switched-clause-exact g c = rw (← c.self.view_is) (λ h st.
    let t = house_time c.self.inside.bench in
    stays g.D.Disk.disk g.T.Trade.trade (λ (task : Task). task ≡ switch_task h t) TellsAdded (limits_of c.self.inside.bench) _ h (g.met.D.Disk.is_disk c.self.inside.journal.disk) st
    None (asks_none h t (sym st.journal.switched_is ∙ sym c.if-is_switched.ensures.value)) refl)

pub returns-in-Err-clause-exact : goal.returns-in-Err-clause-exact
returns-in-Err-clause-exact g c = rw (← c.self.view_is, ← c.bench.view_is) (λ h st.
    let t = c.bench.inside.state.time in
    let b = c.bench.inside.state in
    let e = Switch t (chain h) in
    let none : has_switch h ≡ false = sym st.journal.switched_is ∙ sym c.if-is_switched.ensures.value in
    let over = c.in-Err.ensures.lines e (sym (switch_long t (chain h) (length-chain h))) ∙ ap (λ (l : Limits). fitted_by l.journal b.size (tail_of b) e) c.limits.ensures.limits in
    unfitted g.D.Disk.disk g.T.Trade.trade (λ (task : Task). task ≡ switch_task h t) TellsAdded (c.bench.inside.state.limits) _ h (g.met.D.Disk.is_disk c.self.inside.journal.disk) st
    e c.in-Err.refusal (asks_switch h t t none refl) (fitted_stands st.house.represents.state (c.bench.inside.state.limits) e ∙ sym over))

pub returns-in-Err-clause-refusals : goal.returns-in-Err-clause-refusals
returns-in-Err-clause-refusals g c =
    let b = c.bench.inside.state in
    full_among _ b.size (tail_of b) (Switch 0 first_chain) _ (c.in-Err.ensures.lines (Switch 0 first_chain) (sym (switch_long 0 first_chain refl)))

pub returns-clause-exact : goal.returns-clause-exact
returns-clause-exact g c = rw (← c.self.view_is, ← c.bench.view_is) (λ h st.
    let t = c.bench.inside.state.time in
    let b = c.bench.inside.state in
    let limits = c.bench.inside.state.limits in
    let n = c.time-moment.result in
    let e = Switch n (chain h) in
    let none : has_switch h ≡ false = sym st.journal.switched_is ∙ sym c.if-is_switched.ensures.value in
    let fits = c.in-Ok.ensures.lines e (sym (switch_long n (chain h) (length-chain h))) ∙ ap (λ (l : Limits). fitted_by l.journal b.size (tail_of b) e) c.limits.ensures.limits in
    let may = may_switch g.T.Trade.trade _ limits h n st.house.represents none c.time-moment.ensures in
    let wrote = c.in-Ok-append_switch.ensures in
    let written = wrote.written h st.journal in
    let applies = (rw (← c.bench.view_is) at c.apply_entry-applied.ensures) in
    let after : HouseView g.row.D.Denot g.row.T.Denot = record { journal = c.in-Ok-append_switch.switched.0; bench = c.apply_entry-applied.new.self } in
    let both = applied c.apply_entry-applied.result _ _ _ _ _ _ (may_enter g.T.Trade.passes limits h n c.in-Ok-append_switch.switched.2 written.2 may)
    (applies.exact h st.house.represents may.in_order written.2) (applies.contents h st.house.represents st.house.contents) in
    enters g.D.Disk.disk g.T.Trade.trade (λ (task : Task). task ≡ switch_task h t) TellsAdded limits (λ k. Some k) c.self.inside.journal.disk h e (Done after c.in-Ok-append_switch.switched.1)
    (asks_switch h t n none c.time-moment.ensures) (λ done. tells_last h e) (
      has_switched g.D.Disk.disk g.T.Trade.trade _ after h n c.in-Ok-append_switch.switched.2 c.in-Ok-append_switch.switched.1 written.2 st written.0 wrote.limit applies.limits written.1 both.0 both.1,
      fitted_stands st.house.represents.state limits e ∙ sym fits,
    )
    (wrote.ran h st.journal))

pub returns-clause-back : goal.returns-clause-back
returns-clause-back g c = rw (← c.self.view_is, ← c.bench.view_is) (
    let come : c.time-moment.result ≤ c.bench.inside.state.time = omega (arith, c.time-moment.ensures) in
    record {
      moved' = c.in-Ok-append_switch.ensures.moved;
      keeps = record { time = time_stays c.apply_entry-applied.result _ _ _ come (rw (← c.bench.view_is) at c.apply_entry-applied.ensures.time); limits = (rw (← c.bench.view_is) at c.apply_entry-applied.ensures.limits) };
      counts = c.in-Ok-append_switch.ensures.same_count;
    })

pub apply_entry-applied-requires-clause-trade : goal.apply_entry-applied-requires-clause-trade
apply_entry-applied-requires-clause-trade g c = g.met.T.Trade.switch_room c.self.inside.bench.trade c.time-moment.result c.in-Ok-append_switch.switched.2

pub returns-in-Err-Full-clause-exact : goal.returns-in-Err-Full-clause-exact
returns-in-Err-Full-clause-exact g c = rw (← c.self.view_is, ← c.bench.view_is) (λ h st.
    let b = c.bench.inside.state in
    let e = Switch c.time-moment.result (chain h) in
    let full : c.self.inside.journal.limit < size h + entry_size h e = rw c.in-Err-Full.field-0-is at (c.in-Err-Full.ensures.full h st.journal.size_is st.journal.switched_is) in
    let fits = subst (λ (l : Limits). size_with b SWITCH_PAYLOAD ≤ l.journal) c.limits.ensures.limits c.in-Ok.ensures.room in
    absurd (not_full_of b h c.self.inside.journal.limit SWITCH_PAYLOAD e st.house.represents.state (sym (switch_long c.time-moment.result (chain h) (length-chain h))) fits st.limit full))

pub returns-in-Err-Disk-clause-exact : goal.returns-in-Err-Disk-clause-exact
returns-in-Err-Disk-clause-exact g c = rw (← c.self.view_is, ← c.bench.view_is) (λ h st.
    let t = c.bench.inside.state.time in
    let b = c.bench.inside.state in
    let limits = c.bench.inside.state.limits in
    let n = c.time-moment.result in
    let e = Switch n (chain h) in
    let none : has_switch h ≡ false = sym st.journal.switched_is ∙ sym c.if-is_switched.ensures.value in
    let fits = c.in-Ok.ensures.lines e (sym (switch_long n (chain h) (length-chain h))) ∙ ap (λ (l : Limits). fitted_by l.journal b.size (tail_of b) e) c.limits.ensures.limits in
    let may = may_switch g.T.Trade.trade _ limits h n st.house.represents none c.time-moment.ensures in
    let rose : Rose (g.D.Disk.disk c.self.inside.journal.disk).faults (g.D.Disk.disk c.in-Err-Disk.halted).faults = rw c.in-Err-Disk.field-0-is at c.in-Err-Disk.ensures.fault in
    let ran : Ran (g.D.Disk.disk c.self.inside.journal.disk) (g.D.Disk.disk c.in-Err-Disk.halted) (EitherNoOutput h e (g.D.Disk.disk c.self.inside.journal.disk).aside) = rw c.in-Err-Disk.field-0-is at (c.in-Err-Disk.ensures.ran h st.journal) in
    subst (λ (d : g.row.D.Denot). Performs g.D.Disk.disk g.T.Trade.trade (λ (task : Task). task ≡ switch_task h t) TellsAdded limits c.self.inside.journal.disk h (Halted d)) (sym c.in-Err-Disk.halted-is)
    (enters g.D.Disk.disk g.T.Trade.trade (λ (task : Task). task ≡ switch_task h t) TellsAdded limits (λ k. Some k) c.self.inside.journal.disk h e (Halted c.in-Err-Disk.halted)
    (asks_switch h t n none c.time-moment.ensures) (λ done. absurd done) (may, rose, fitted_stands st.house.represents.state limits e ∙ sym fits) ran))
