use Rattle.std.proofs.Common.{refl, sym, ap, subst, ◌∙◌}
use Rattle.mc_outside.specs.DiskView.{Ran}
use Rattle.mc_requests.specs.declared.limits.Limits.{Limits}
use Rattle.ledger_model.specs.Answer.{Answer, answer}
use Rattle.ledger_model.proofs.WithinLaws.{within_keeping}
use Rattle.house_core.specs.House.{Responds, Leaves, outcome_disk}
use Rattle.house_core.proofs.HouseDisk.{ran_nothing, ran_refused, ran_again, responds_refused, responds_again}
use Rattle.house_core.proofs.house.House.respond.Goals as goal

pub returns-in-Ok-clause-exact : goal.returns-in-Ok-clause-exact
returns-in-Ok-clause-exact g c = rw (← c.self.view_is, ← c.bench.view_is) (λ h st.
    let b = st.house.represents in
    let is = c.in-Ok.ensures.exact h b.state b.learned b.of_kind ∙ within_keeping _ h _ _ _ st.house.contents.keep ∙ ap (λ (l : Limits). answer h (c.bench.inside.state.time) l c.args.q.now) c.limits.ensures.limits in
    subst (λ (a : Answer). Responds g.D.Disk.disk g.T.Trade.trade c.self.inside.journal.disk h a c.commit.result) is
    ((rw (← c.bench.view_is) at c.commit.ensures.exact) h st (c.in-Ok.ensures.in_force h b.learned b.of_kind) (c.in-Ok.ensures.brings h b.learned b.of_kind) (sym is)))

pub returns-in-Ok-clause-ran : goal.returns-in-Ok-clause-ran
returns-in-Ok-clause-ran g c = rw (← c.self.view_is, ← c.bench.view_is) (λ h st.
    let b = st.house.represents in
    let is = c.in-Ok.ensures.exact h b.state b.learned b.of_kind ∙ within_keeping _ h _ _ _ st.house.contents.keep ∙ ap (λ (l : Limits). answer h (c.bench.inside.state.time) l c.args.q.now) c.limits.ensures.limits in
    subst (λ (a : Answer). Ran (g.D.Disk.disk c.self.inside.journal.disk) (g.D.Disk.disk (outcome_disk c.commit.result)) (Leaves a c.commit.result h (g.D.Disk.disk c.self.inside.journal.disk).aside)) is
    ((rw (← c.bench.view_is) at c.commit.ensures.ran) h st))

pub returns-in-Err-Refused-clause-back : goal.returns-in-Err-Refused-clause-back
returns-in-Err-Refused-clause-back g c = rw (← c.self.view_is, ← c.bench.view_is) (
    record { moved' = g.met.D.Disk.disk_stays c.self.inside.journal.disk; keeps = record { time = refl; limits = refl }; counts = refl })

pub returns-in-Err-Refused-clause-exact : goal.returns-in-Err-Refused-clause-exact
returns-in-Err-Refused-clause-exact g c = rw (← c.self.view_is, ← c.bench.view_is) (λ h st.
    let b = st.house.represents in
    let is = (rw c.in-Err-Refused.field-0-is at (c.in-Err-Refused.ensures.exact h b.state b.learned b.of_kind))
    ∙ within_keeping _ h _ _ _ st.house.contents.keep ∙ ap (λ (l : Limits). answer h (c.bench.inside.state.time) l c.args.q.now) c.limits.ensures.limits in
    responds_refused g.D.Disk.disk g.T.Trade.trade _ h _ c.in-Err-Refused.refusal is st)

pub returns-in-Err-Refused-clause-ran : goal.returns-in-Err-Refused-clause-ran
returns-in-Err-Refused-clause-ran g c = rw (← c.self.view_is, ← c.bench.view_is) (λ h st.
    ran_refused _ _ _ _ _ _ h _ (ran_nothing g.D.Disk.disk c.self.inside.journal _ h (g.met.D.Disk.is_disk _) st.journal refl))

pub returns-in-Err-Again-clause-back : goal.returns-in-Err-Again-clause-back
returns-in-Err-Again-clause-back g c = rw (← c.self.view_is, ← c.bench.view_is) (
    record { moved' = g.met.D.Disk.disk_stays c.self.inside.journal.disk; keeps = record { time = refl; limits = refl }; counts = refl })

pub returns-in-Err-Again-clause-exact : goal.returns-in-Err-Again-clause-exact
returns-in-Err-Again-clause-exact g c = rw (← c.self.view_is, ← c.bench.view_is) (λ h st.
    let b = st.house.represents in
    let is = (rw c.in-Err-Again.field-0-is at (c.in-Err-Again.ensures.exact h b.state b.learned b.of_kind))
    ∙ within_keeping _ h _ _ _ st.house.contents.keep ∙ ap (λ (l : Limits). answer h (c.bench.inside.state.time) l c.args.q.now) c.limits.ensures.limits in
    responds_again g.D.Disk.disk g.T.Trade.trade _ h _ c.in-Err-Again.number is st)

pub returns-in-Err-Again-clause-ran : goal.returns-in-Err-Again-clause-ran
returns-in-Err-Again-clause-ran g c = rw (← c.self.view_is, ← c.bench.view_is) (λ h st.
    let b = st.house.represents in
    let is = (rw c.in-Err-Again.field-0-is at (c.in-Err-Again.ensures.exact h b.state b.learned b.of_kind))
    ∙ within_keeping _ h _ _ _ st.house.contents.keep ∙ ap (λ (l : Limits). answer h (c.bench.inside.state.time) l c.args.q.now) c.limits.ensures.limits in
    ran_again _ _ _ _ _ _ c.in-Err-Again.number h _ is (ran_nothing g.D.Disk.disk c.self.inside.journal _ h (g.met.D.Disk.is_disk _) st.journal refl))
