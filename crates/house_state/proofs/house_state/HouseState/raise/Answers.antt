use Rattle.std.proofs.Common.{sym, subst}
use Rattle.house_state.specs.HouseState.{HouseStateView}
use Rattle.house_state.specs.LiveWindows.{AreUsed}
use Rattle.house_state.proofs.Entering.{sound_later}
use Rattle.house_state.proofs.WindowCounts.{used_dropped}
use Rattle.house_state.proofs.house_state.HouseState.raise.Goals as goal

pub invariant_of-self : goal.invariant_of-self
invariant_of-self c = sound_later _ c.later-time.result c.forget.new.self c.forget-2.new.self c.self.invariant c.forget.ensures.ends c.forget-2.ensures.keep c.forget-2.ensures.replies

pub returns-clause-used : goal.returns-clause-used
returns-clause-used c used =
    used_dropped c.later-time.result c.self.inside.spent c.forget.new.self c.forget.ensures.marked c.forget.ensures.ends
    (subst (λ (b : HouseStateView). AreUsed b.spent) (sym c.self.view_is) used)
