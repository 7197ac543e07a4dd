use Rattle.std.proofs.Common.{ℕ, ◌≤◌, refl, sym, arith, subst}
use Rattle.std.specs.Prelude.{Option, max}
use Rattle.house_state.specs.HouseState.{HouseStateView}
use Rattle.house_state.specs.Trade.{IsKeptFrom}
use Rattle.house_state.specs.Representation.{StateRepresents}
use Rattle.house_core.proofs.KeptLater.{stands_later, contents_later}
use Rattle.house_core.proofs.bench.Bench.raise.Goals as goal

pub returns-clause-same : goal.returns-clause-same
returns-clause-same g c = rw (← c.self.view_is) (λ h st.
    let later : c.self.inside.state.time ≤ max c.self.inside.state.time c.args.reading = omega arith in
    record {
      state = subst (λ (b : HouseStateView). StateRepresents b h) (sym c.raise-time.ensures.rest)
          (stands_later st.state (max c.self.inside.state.time c.args.reading) c.raise-time.new.self.spent c.raise-time.new.self.kept later c.raise-time.ensures.spent c.raise-time.ensures.keep c.raise-time.ensures.replies);
      learned = c.forget.ensures.same h st.learned;
      of_kind = rw c.forget.ensures.site st.of_kind;
    })

pub returns-clause-contents : goal.returns-clause-contents
returns-clause-contents g c = rw (← c.self.view_is) (λ h st has.
    contents_later g.T.Trade.trade _ (record { state = c.raise-time.new.self; trade = c.forget.new.self; tally = c.self.inside.tally }) h (max c.self.inside.state.time c.args.reading) c.first_kept.result has
    c.raise-time.ensures.keep c.raise-time.ensures.replies c.first_kept.ensures.least (λ e. c.first_kept.ensures.none.0 (rw e refl)) (λ n kept held. c.forget.ensures.held h n st.learned kept held))

pub returns-clause-freed : goal.returns-clause-freed
returns-clause-freed g c = rw (← c.self.view_is) (λ h n st held.
    subst (λ (from : Option ℕ). IsKeptFrom h from n) c.first_kept.ensures.first (c.forget.ensures.freed h n st.learned held))

pub returns-clause-used : goal.returns-clause-used
returns-clause-used g c = rw (← c.self.view_is) (λ used. c.raise-time.ensures.used used)
