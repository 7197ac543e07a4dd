use Rattle.std.proofs.Common.{[], ◌∷◌, refl, sym, subst}
use Rattle.mc_records.specs.Views.{entry}
use Rattle.house_state.specs.HouseState.{HouseStateView}
use Rattle.house_state.specs.Representation.{StateRepresents}
use Rattle.house_core.proofs.Founded.{stands_keeping}
use Rattle.house_core.proofs.reading.ReadingBench.new.Goals as goal

pub returns-clause-holds : goal.returns-clause-holds
returns-clause-holds g c =
    let e = entry c.args.site.now in
    let st = rw (← c.bench.view_is) at c.in_ok-bench.ensures.holds in
    record {
      state = subst (λ (b : HouseStateView). StateRepresents b (e ∷ [])) (sym c.keep_none.ensures.rest)
          (stands_keeping e c.keep_none.new.self.kept c.requires.site st.state c.keep_none.ensures.replies);
      learned = st.learned;
      of_kind = st.of_kind;
    }
