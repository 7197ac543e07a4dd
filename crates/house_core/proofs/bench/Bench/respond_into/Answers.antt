use Rattle.std.proofs.Common.{refl, sym, ap, subst, ◌∙◌, ◌++◌, Ok, Err}
use Rattle.mc_requests.specs.declared.limits.Limits.{Limits}
use Rattle.ledger_model.specs.Answer.{Answer, answer}
use Rattle.ledger_model.proofs.WithinLaws.{within_keeping}
use Rattle.house_core.specs.declared.fault.BenchFault.{BenchFault}
use Rattle.house_core.specs.declared.fault.BenchFault.TheVariants as faults
use Rattle.house_core.specs.Bench.{Accepts, KeepsContents}
use Rattle.house_core.specs.Gathering.{Gathers}
use Rattle.house_core.proofs.Accepting.{stopped_kept, stopped_site, makes_none}
use Rattle.house_core.proofs.Contents.{keeps_all}
use Rattle.house_core.proofs.GatheringLemmas.{gathers_none}
use Rattle.house_core.proofs.bench.Bench.respond_into.Goals as goal

pub returns-in-Err-clause-exact : goal.returns-in-Err-clause-exact
returns-in-Err-clause-exact g c = rw (← c.self.view_is) (λ h st.
    rw c.stopped_with.ensures (makes_none g.T.Trade.trade _ h c.args.q.now c.in-Err.stopped st.represents
    (c.in-Err.ensures.exact h st.represents.state st.represents.learned st.represents.of_kind ∙ within_keeping _ h _ _ _ st.contents.keep ∙ ap (λ (l : Limits). answer h (c.self.inside.state.time) l c.args.q.now) c.limits.ensures.limits)))

pub returns-in-Err-clause-contents : goal.returns-in-Err-clause-contents
returns-in-Err-clause-contents g c = rw (← c.self.view_is) (λ h st has.
    rw c.stopped_with.ensures (keeps_all g.T.Trade.trade _ h c.args.q.now c.in-Err.stopped has
    (c.in-Err.ensures.exact h st.state st.learned st.of_kind ∙ within_keeping _ h _ _ _ has.keep ∙ ap (λ (l : Limits). answer h (c.self.inside.state.time) l c.args.q.now) c.limits.ensures.limits)))

pub returns-in-Err-clause-gathered : goal.returns-in-Err-clause-gathered
returns-in-Err-clause-gathered g c = rw (← c.self.view_is) (λ h es st is.
    let k = h ++ es in
    rw c.stopped_with.ensures (gathers_none g.D.Disk.disk c.args.batch.now h es (answer k c.self.inside.state.time c.self.inside.state.limits c.args.q.now) c.in-Err.stopped
    (c.in-Err.ensures.exact k st.represents.state st.represents.learned st.represents.of_kind ∙ within_keeping _ k _ _ _ st.contents.keep ∙ ap (λ (l : Limits). answer k (c.self.inside.state.time) l c.args.q.now) c.limits.ensures.limits) is))

pub returns-in-Err-clause-kept : goal.returns-in-Err-clause-kept
returns-in-Err-clause-kept g c = rw (← c.self.view_is) (
    rw c.stopped_with.ensures (stopped_kept (record { state = c.self.inside.state; trade = c.self.inside.trade; tally = c.self.inside.tally }) c.in-Err.stopped c.in-Err.ensures.again))

pub returns-in-Err-clause-site : goal.returns-in-Err-clause-site
returns-in-Err-clause-site g c = rw c.stopped_with.ensures (stopped_site c.in-Err.stopped c.in-Err.ensures.site)

pub returns-in-Ok-commit_into-clause-exact : goal.returns-in-Ok-commit_into-clause-exact
returns-in-Ok-commit_into-clause-exact g c = rw (← c.self.view_is) (λ h st.
    let is = c.in-Ok.ensures.exact h st.represents.state st.represents.learned st.represents.of_kind ∙ within_keeping _ h _ _ _ st.contents.keep ∙ ap (λ (l : Limits). answer h (c.self.inside.state.time) l c.args.q.now) c.limits.ensures.limits in
    subst (λ (a : Answer). Accepts g.T.Trade.trade c.commit_into.new.self h a (Ok c.in-Ok-commit_into.number)) is
    ((rw (← c.self.view_is) at c.in-Ok-commit_into.ensures.exact) c.self.inside.state.limits h st.represents refl c.limits.ensures.sound.limits.journal_most (sym is)))

pub returns-in-Ok-commit_into-clause-contents : goal.returns-in-Ok-commit_into-clause-contents
returns-in-Ok-commit_into-clause-contents g c = rw (← c.self.view_is) (λ h st has.
    let is = c.in-Ok.ensures.exact h st.state st.learned st.of_kind ∙ within_keeping _ h _ _ _ has.keep ∙ ap (λ (l : Limits). answer h (c.self.inside.state.time) l c.args.q.now) c.limits.ensures.limits in
    subst (λ (a : Answer). KeepsContents g.T.Trade.trade c.commit_into.new.self h a (Ok c.in-Ok-commit_into.number)) is ((rw (← c.self.view_is) at c.in-Ok-commit_into.ensures.contents) h st has (c.in-Ok.ensures.in_force h st.learned st.of_kind)))

pub returns-in-Ok-commit_into-clause-gathered : goal.returns-in-Ok-commit_into-clause-gathered
returns-in-Ok-commit_into-clause-gathered g c = rw (← c.self.view_is) (λ h es st was.
    let k = h ++ es in
    let is = c.in-Ok.ensures.exact k st.represents.state st.represents.learned st.represents.of_kind ∙ within_keeping _ k _ _ _ st.contents.keep ∙ ap (λ (l : Limits). answer k (c.self.inside.state.time) l c.args.q.now) c.limits.ensures.limits in
    subst (λ (a : Answer). Gathers {E = BenchFault} g.D.Disk.disk c.commit_into.new.batch h es a (Ok c.in-Ok-commit_into.number)) is ((rw (← c.self.view_is) at c.in-Ok-commit_into.ensures.gathered) h es was))

pub returns-clause-exact : goal.returns-clause-exact
returns-clause-exact g c = rw (← c.self.view_is) (λ h st.
    let is = c.in-Ok.ensures.exact h st.represents.state st.represents.learned st.represents.of_kind ∙ within_keeping _ h _ _ _ st.contents.keep ∙ ap (λ (l : Limits). answer h (c.self.inside.state.time) l c.args.q.now) c.limits.ensures.limits in
    subst (λ (a : Answer). Accepts g.T.Trade.trade c.commit_into.new.self h a (Err faults.NoMemory)) is
    ((rw (← c.self.view_is) at c.in-Err-commit_into.ensures.exact) c.self.inside.state.limits h st.represents refl c.limits.ensures.sound.limits.journal_most (sym is)))

pub returns-clause-gathered : goal.returns-clause-gathered
returns-clause-gathered g c = rw (← c.self.view_is) (λ h es st was.
    let k = h ++ es in
    let is = c.in-Ok.ensures.exact k st.represents.state st.represents.learned st.represents.of_kind ∙ within_keeping _ k _ _ _ st.contents.keep ∙ ap (λ (l : Limits). answer k (c.self.inside.state.time) l c.args.q.now) c.limits.ensures.limits in
    subst (λ (a : Answer). Gathers {E = BenchFault} g.D.Disk.disk c.commit_into.new.batch h es a (Err faults.NoMemory)) is (c.in-Err-commit_into.ensures.gathered h es was))
