use Rattle.std.proofs.Common.{refl, sym, ap, subst, ◌∙◌, arith, Ok, Err}
use Rattle.mc_requests.specs.declared.limits.Limits.{Limits}
use Rattle.ledger_model.specs.Answer.{Answer, answer}
use Rattle.ledger_model.proofs.WithinLaws.{within_keeping}
use Rattle.house_core.specs.declared.fault.BenchFault.TheVariants as faults
use Rattle.house_core.specs.Bench.{Accepts, KeepsContents}
use Rattle.house_core.proofs.Accepting.{stopped_kept, stopped_site, makes_none}
use Rattle.house_core.proofs.TallyLaws.{told_stopped}
use Rattle.house_core.proofs.Contents.{keeps_all}
use Rattle.house_core.proofs.Committing.{price_paid_is, change_given_is}
use Rattle.house_core.proofs.bench.Bench.respond.Goals as goal

pub returns-in-Err-clause-exact : goal.returns-in-Err-clause-exact
returns-in-Err-clause-exact g c = rw (← c.self.view_is) (λ h st.
    rw c.stopped_with.ensures (makes_none g.T.Trade.trade _ h c.args.q.now c.in-Err.stopped st.represents
    (c.in-Err.ensures.exact h st.represents.state st.represents.learned st.represents.of_kind ∙ within_keeping _ h _ _ _ st.contents.keep ∙ ap (λ (l : Limits). answer h (c.self.inside.state.time) l c.args.q.now) c.limits.ensures.limits)))

pub returns-in-Err-clause-contents : goal.returns-in-Err-clause-contents
returns-in-Err-clause-contents g c = rw (← c.self.view_is) (λ h st has.
    rw c.stopped_with.ensures (keeps_all g.T.Trade.trade _ h c.args.q.now c.in-Err.stopped has
    (c.in-Err.ensures.exact h st.state st.learned st.of_kind ∙ within_keeping _ h _ _ _ has.keep ∙ ap (λ (l : Limits). answer h (c.self.inside.state.time) l c.args.q.now) c.limits.ensures.limits)))

pub returns-in-Err-clause-kept : goal.returns-in-Err-clause-kept
returns-in-Err-clause-kept g c = rw (← c.self.view_is) (
    rw c.stopped_with.ensures (stopped_kept (record { state = c.self.inside.state; trade = c.self.inside.trade; tally = c.self.inside.tally }) c.in-Err.stopped c.in-Err.ensures.again))

pub returns-in-Err-clause-site : goal.returns-in-Err-clause-site
returns-in-Err-clause-site g c = rw c.stopped_with.ensures (stopped_site c.in-Err.stopped c.in-Err.ensures.site)

pub returns-in-Ok-commit-clause-exact : goal.returns-in-Ok-commit-clause-exact
returns-in-Ok-commit-clause-exact g c = rw (← c.self.view_is) (λ h st.
    let is = c.in-Ok.ensures.exact h st.represents.state st.represents.learned st.represents.of_kind ∙ within_keeping _ h _ _ _ st.contents.keep ∙ ap (λ (l : Limits). answer h (c.self.inside.state.time) l c.args.q.now) c.limits.ensures.limits in
    subst (λ (a : Answer). Accepts g.T.Trade.trade c.commit.new.self h a (Ok c.in-Ok-commit.number)) is
    ((rw (← c.self.view_is) at c.in-Ok-commit.ensures.exact) c.self.inside.state.limits h st.represents refl c.limits.ensures.sound.limits.journal_most (sym is)))

pub returns-in-Ok-commit-clause-contents : goal.returns-in-Ok-commit-clause-contents
returns-in-Ok-commit-clause-contents g c = rw (← c.self.view_is) (λ h st has.
    let is = c.in-Ok.ensures.exact h st.state st.learned st.of_kind ∙ within_keeping _ h _ _ _ has.keep ∙ ap (λ (l : Limits). answer h (c.self.inside.state.time) l c.args.q.now) c.limits.ensures.limits in
    subst (λ (a : Answer). KeepsContents g.T.Trade.trade c.commit.new.self h a (Ok c.in-Ok-commit.number)) is ((rw (← c.self.view_is) at c.in-Ok-commit.ensures.contents) h st has (c.in-Ok.ensures.in_force h st.learned st.of_kind)))

pub returns-clause-exact : goal.returns-clause-exact
returns-clause-exact g c = rw (← c.self.view_is) (λ h st.
    let is = c.in-Ok.ensures.exact h st.represents.state st.represents.learned st.represents.of_kind ∙ within_keeping _ h _ _ _ st.contents.keep ∙ ap (λ (l : Limits). answer h (c.self.inside.state.time) l c.args.q.now) c.limits.ensures.limits in
    subst (λ (a : Answer). Accepts g.T.Trade.trade c.commit.new.self h a (Err faults.NoMemory)) is
    ((rw (← c.self.view_is) at c.in-Err-commit.ensures.exact) c.self.inside.state.limits h st.represents refl c.limits.ensures.sound.limits.journal_most (sym is)))

-- ---- the tally

pub returns-in-Err-clause-within : goal.returns-in-Err-clause-within
returns-in-Err-clause-within g c = rw (← c.self.view_is) (λ is.
    c.stop.ensures.within c.self.inside.state.count is)

pub returns-in-Ok-commit-clause-within : goal.returns-in-Ok-commit-clause-within
returns-in-Ok-commit-clause-within g c = rw (← c.self.view_is) (λ is.
    rw (rw (← c.self.view_is) at c.in-Ok-commit.ensures.more) (c.take.ensures.within c.self.inside.state.count is))

pub returns-in-Ok-commit-clause-counted : goal.returns-in-Ok-commit-clause-counted
returns-in-Ok-commit-clause-counted g c = rw (← c.self.view_is) (λ h st is.
    let a = c.in-Ok.authorization in
    let takes = c.in-Ok.ensures.exact h st.represents.state st.represents.learned st.represents.of_kind ∙ within_keeping _ h _ _ _ st.contents.keep ∙ ap (λ (l : Limits). answer h (c.self.inside.state.time) l c.args.q.now) c.limits.ensures.limits in
    let sound = c.limits.ensures.sound in
    rw (← takes) (c.take.ensures.counted _ c.self.inside.state.count is (omega (arith, sound.counted, sound.sized))
    (price_paid_is (c.self.inside.state.time) c.args.q.now.target a ∙ sym c.price.ensures)
    (change_given_is c.self.inside.state c.args.q.now (c.self.inside.state.time) c.args.q.now.target a c.in-Ok.ensures.new ∙ sym c.change_worth.ensures)))

pub returns-clause-within : goal.returns-clause-within
returns-clause-within g c = rw (← c.self.view_is) (λ is.
    rw (rw (← c.self.view_is) at c.in-Err-commit.ensures.more) (c.refuse.ensures.within c.self.inside.state.count is))

pub returns-in-Err-clause-counted : goal.returns-in-Err-clause-counted
returns-in-Err-clause-counted g c = rw (← c.self.view_is) (λ h st is.
    let says = c.in-Err.ensures.exact h st.represents.state st.represents.learned st.represents.of_kind ∙ within_keeping _ h _ _ _ st.contents.keep ∙ ap (λ (l : Limits). answer h (c.self.inside.state.time) l c.args.q.now) c.limits.ensures.limits in
    rw (← says, told_stopped c.in-Err.stopped _) (c.stop.ensures.counted is.counts))

pub returns-clause-counted : goal.returns-clause-counted
returns-clause-counted g c = rw (← c.self.view_is) (λ h st is.
    let takes = c.in-Ok.ensures.exact h st.represents.state st.represents.learned st.represents.of_kind ∙ within_keeping _ h _ _ _ st.contents.keep ∙ ap (λ (l : Limits). answer h (c.self.inside.state.time) l c.args.q.now) c.limits.ensures.limits in
    rw (← takes) (c.refuse.ensures.counted is.counts))
