use Rattle.std.proofs.Common.{List, ℕ, refl, subst}
use Rattle.broker_stalls.specs.Stalls.{empty_stall}
use Rattle.broker_stalls.specs.Shown.{Shows}
use Rattle.broker_core.proofs.SaleLaws.{unknown_vendor}
use Rattle.broker_core.proofs.desk.Desk.supply.Goals as goal

pub returns-in-Some-clause-deed : goal.returns-in-Some-clause-deed
returns-in-Some-clause-deed c h stands =
    c.sold_from.ensures.deed h (subst (λ (vendor : List ℕ). Shows h vendor c.in-Some.stall.now) c.bytes.ensures.value (c.in-Some.ensures.shows h stands))

pub returns-in-Some-clause-brings : goal.returns-in-Some-clause-brings
returns-in-Some-clause-brings c h target stands =
    c.sold_from.ensures.brings h target (subst (λ (vendor : List ℕ). Shows h vendor c.in-Some.stall.now) c.bytes.ensures.value (c.in-Some.ensures.shows h stands)) stands.of_moves

pub returns-in-None-clause-deed : goal.returns-in-None-clause-deed
returns-in-None-clause-deed c h stands =
    unknown_vendor h c.args.asked.now.vendor empty_stall c.args.limits.series c.args.time c.args.asked.now.value
    (subst (λ (vendor : List ℕ). Shows h vendor empty_stall) c.bytes.ensures.value (c.in-None.ensures.shows h stands)) refl refl
