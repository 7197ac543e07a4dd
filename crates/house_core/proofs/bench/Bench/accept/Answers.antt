use Rattle.std.proofs.Common.{sym, subst}
use Rattle.house_state.specs.HouseState.{HouseStateView}
use Rattle.house_state.specs.LiveWindows.{AreUsed}
use Rattle.house_core.proofs.bench.Bench.accept.Goals as goal

pub returns-in-Ok-clause-used : goal.returns-in-Ok-clause-used
returns-in-Ok-clause-used g c = rw (← c.self.view_is) (λ used. c.respond.ensures.used (subst (λ (b : HouseStateView). AreUsed b.spent) (sym c.keep_some.ensures.rest) used))

pub returns-in-Err-clause-used : goal.returns-in-Err-clause-used
returns-in-Err-clause-used g c = rw (← c.self.view_is) (λ used. c.respond.ensures.used (subst (λ (b : HouseStateView). AreUsed b.spent) (sym c.keep_some.ensures.rest) used))
