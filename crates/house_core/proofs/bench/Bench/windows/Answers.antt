use Rattle.std.proofs.Common.{◌∙◌}
use Rattle.house_state.proofs.WindowCounts.{windows_counted}
use Rattle.house_core.proofs.bench.Bench.windows.Goals as goal

pub returns : goal.returns
returns g c = rw (← c.self.view_is) (λ h st used.
    c.windows.ensures.count ∙ windows_counted st.state c.windows.ensures.sound c.windows.ensures.order used)
