use Rattle.std.proofs.Common.{Option, Err, subst}
use Rattle.mc_requests.specs.declared.limits.Limits.{Limits}
use Rattle.mc_records.specs.Views.{entry}
use Rattle.house_core.specs.declared.spent.SpentPiece.{SpentPiece}
use Rattle.house_core.specs.Bench.{Replays, limits_of}
use Rattle.house_opening.specs.Opening.{StandsAt}
use Rattle.house_opening.proofs.Learned.{fault_told, learned}
use Rattle.house_opening.proofs.opening.HouseOpenerOpener.learn.Goals as goal

pub returns-in-Ok-clause-exact : goal.returns-in-Ok-clause-exact
returns-in-Ok-clause-exact g c o h limits stands tells room =
    learned g.T.Trade.trade g.T.Trade.passes c.replay.new.self (limits_of c.args.bench.now) o.limits h (entry c.args.r.now) c.in-Ok.field-0 limits (c.in-Ok.ensures.exact h stands.house.represents stands.time' tells room)
    (c.in-Ok.ensures.contents h stands.house.represents stands.house.contents)

pub returns-in-Err-clause-exact : goal.returns-in-Err-clause-exact
returns-in-Err-clause-exact g c o h limits stands tells room =
    fault_told {A = Unit {0}} (Option SpentPiece) g.T.Trade.trade g.T.Trade.passes c.replay.new.self o.limits (λ u. StandsAt g.T.Trade.trade c.replay.new.self) h (entry c.args.r.now) c.in-Err.fault
    (subst (λ (l : Limits). Replays {X = Option SpentPiece} g.T.Trade.trade g.T.Trade.passes c.replay.new.self l h (entry c.args.r.now) (Err c.in-Err.fault)) limits (c.in-Err.ensures.exact h stands.house.represents stands.time' tells room))
