use Rattle.std.proofs.Common.{ℕ, sym, subst}
use Rattle.house_state.specs.HouseState.{GoesOn}
use Rattle.mc_records.specs.Views.{entry}
use Rattle.house_core.proofs.Accepting.{stands_as_before}
use Rattle.house_core.proofs.Applied.{house_half}
use Rattle.house_state.proofs.PartLaws.{halves}
use Rattle.house_core.proofs.bench.Bench.room_for.Goals as goal
use Rattle.house_core.proofs.bench.Bench.room_for.Goals.{in-Ok-reserve_for, in-Err-reserve_for}

pub returns-then-not-goes_on-clause-end : goal.returns-then-not-goes_on-clause-end
returns-then-not-goes_on-clause-end g c = rw (← c.self.view_is) (λ h st tells. (
  λ may.
      let e = entry c.args.r.now in
      let half = house_half st.state (g.T.Trade.trade c.self.inside.trade).site st.of_kind e c.requires.command tells in
      let goes = half.1 ((halves g.T.Trade.passes c.self.inside.state.limits (g.T.Trade.trade c.self.inside.trade).site h e st.of_kind).0 (may.follows.allowed, may.passed)).0 in
      let yes' = c.goes_on.ensures.1 (subst (λ (k : ℕ). GoesOn c.self.inside.state k e) (sym c.kind.ensures) goes) in
      absurd (cc),
  st,
))

pub returns-clause-end : goal.returns-clause-end
returns-clause-end g c = rw (← c.self.view_is) (λ h st tells.
    elim c.match-reserve_for.branch [
      | in-Ok-reserve_for w ↦ rw w.result-is tt
      | in-Err-reserve_for w ↦
          rw w.result-is
          (record { state = stands_as_before st.state c.reserve_for.ensures.same; learned = c.in-Ok.ensures.same h st.learned; of_kind = rw c.in-Ok.ensures.site st.of_kind })
    ])
