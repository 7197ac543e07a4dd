use Rattle.std.proofs.Common.{◌≡◌, ◌∙◌, ◌+◌, ◌<◌, false, refl, sym, ap, subst, arith}
use Rattle.mc_outside.specs.Bytes.{Rose}
use Rattle.mc_outside.specs.DiskView.{Ran}
use Rattle.mc_requests.specs.declared.limits.Limits.{Limits}
use Rattle.mc_records.specs.Chains.{chain, has_switch}
use Rattle.mc_records.specs.Entry.{Switch}
use Rattle.mc_records.specs.Sizes.{size, entry_size}
use Rattle.mc_records.proofs.ChainLaws.{length-chain}
use Rattle.scrip_journal.specs.Exits.{EitherNoOutput}
use Rattle.scrip_journal.proofs.SwitchLaws.{switch_long}
use Rattle.wallet_core.specs.declared.outcome.WalletOut.TheVariants.{Halted}
use Rattle.wallet_core.specs.Switching.{Switches}
use Rattle.wallet_core.proofs.EnterLaws.{not_full}
use Rattle.wallet_core.proofs.SwitchLaws.{may_switch, switch_learned, switch_room, switched_already, switch_done, switch_refused, switch_halted}
use Rattle.wallet_core.proofs.wallet.Wallet.switch.Goals as goal

pub returns-then-is_switched-clause-exact : goal.returns-then-is_switched-clause-exact
returns-then-is_switched-clause-exact g c = rw (← c.self.view_is) (λ h st.
    switched_already g.D.Disk.disk (record { journal = c.self.inside.journal; book = c.self.inside.book }) h st (g.met.D.Disk.is_disk c.self.inside.journal.disk) (sym c.if-is_switched.ensures.value))

pub returns-in-Err-clause-exact : goal.returns-in-Err-clause-exact
returns-in-Err-clause-exact g c = rw (← c.self.view_is) (λ h st.
    let t = c.self.inside.book.time in
    let none : has_switch h ≡ false = sym st.journal.switched_is ∙ sym c.if-is_switched.ensures.value in
    switch_refused g.D.Disk.disk (record { journal = c.self.inside.journal; book = c.self.inside.book }) h st none t refl c.in-Err.full (g.met.D.Disk.is_disk c.self.inside.journal.disk) (c.in-Err.ensures.fitted h (Switch t (chain h)) st.book (sym (switch_long t (chain h) (length-chain h)))))

pub returns-clause-exact : goal.returns-clause-exact
returns-clause-exact g c = rw (← c.self.view_is) (λ h st.
    let t = c.time-moment.result in
    let none : has_switch h ≡ false = sym st.journal.switched_is ∙ sym c.if-is_switched.ensures.value in
    let wrote = c.in-Ok-append_switch.ensures in
    let written = wrote.written h st.journal in
    let knows = c.learn-learned.ensures in
    let told = c.in-Ok-append_switch.switched.2 in
    let may = may_switch c.self.inside.book h t st.book none c.time-moment.ensures in
    let both = switch_learned c.learn-learned.new.self h t told c.learn-learned.result written.2 may (knows.exact h st.book written.2 (switch_room g.D.Disk.disk c.in-Ok-append_switch.switched.0 h t told written.2 written.0)) in
    switch_done g.D.Disk.disk (record { journal = c.self.inside.journal; book = c.self.inside.book }) h st none t c.time-moment.ensures _ c.in-Ok-append_switch.switched.1
    (record {
      fits = c.in-Ok.ensures.fitted h (Switch t (chain h)) st.book (sym (switch_long t (chain h) (length-chain h)));
      stands = record { journal = written.0; book = both.1; limit = wrote.limit ∙ st.limit ∙ ap (λ (l : Limits). l.journal) (sym knows.limits) };
      time' = omega (arith, knows.time both.0, c.time-moment.ensures);
    })
    written.1 (wrote.ran h st.journal))

pub returns-in-Err-Full-clause-exact : goal.returns-in-Err-Full-clause-exact
returns-in-Err-Full-clause-exact g c = rw (← c.self.view_is) (λ h st.
    let t = c.time-moment.result in
    let e = Switch t (chain h) in
    let full : c.self.inside.journal.limit < size h + entry_size h e = rw c.in-Err-Full.field-0-is at (c.in-Err-Full.ensures.full h st.journal.size_is st.journal.switched_is) in
    absurd (not_full c.self.inside.book h e (c.in-Ok.ensures.fitted h e st.book (sym (switch_long t (chain h) (length-chain h)))) (omega (arith, full, st.limit))))

pub returns-in-Err-Disk-clause-exact : goal.returns-in-Err-Disk-clause-exact
returns-in-Err-Disk-clause-exact g c = rw (← c.self.view_is) (λ h st.
    let t = c.time-moment.result in
    let e = Switch t (chain h) in
    let none : has_switch h ≡ false = sym st.journal.switched_is ∙ sym c.if-is_switched.ensures.value in
    let rose : Rose (g.D.Disk.disk c.self.inside.journal.disk).faults (g.D.Disk.disk c.in-Err-Disk.halted).faults = rw c.in-Err-Disk.field-0-is at c.in-Err-Disk.ensures.fault in
    let ran : Ran (g.D.Disk.disk c.self.inside.journal.disk) (g.D.Disk.disk c.in-Err-Disk.halted) (EitherNoOutput h e (g.D.Disk.disk c.self.inside.journal.disk).aside) = rw c.in-Err-Disk.field-0-is at (c.in-Err-Disk.ensures.ran h st.journal) in
    subst (λ (d : g.row.D.Denot). Switches g.D.Disk.disk (record { journal = c.self.inside.journal; book = c.self.inside.book }) h (Halted d)) (sym c.in-Err-Disk.halted-is)
    (switch_halted g.D.Disk.disk (record { journal = c.self.inside.journal; book = c.self.inside.book }) h st none t c.time-moment.ensures c.in-Err-Disk.halted
    (record {
      fits = c.in-Ok.ensures.fitted h e st.book (sym (switch_long t (chain h) (length-chain h)));
      follows = may_switch c.self.inside.book h t st.book none c.time-moment.ensures;
      rose = rose;
    })
    ran))
