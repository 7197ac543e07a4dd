use Rattle.std.proofs.Common.{◌∙◌, Some, None, ap}
use Rattle.broker_core.specs.Moves.{MovesView}
use Rattle.broker_core.proofs.MoveLaws.{upgraded_is}
use Rattle.broker_core.proofs.moves.Moves.upgraded.Goals as goal

pub returns-in-Some : goal.returns-in-Some
returns-in-Some c =
    upgraded_is c.args.vendor.now c.args.issuer c.deref.result.now c.args.self.now.moved (Some c.in-Some.moved.now) c.in-Some.ensures (c.deref.ensures.value ∙ ap (λ (v : MovesView). v.moved) c.self.view_is)

pub returns-in-None : goal.returns-in-None
returns-in-None c =
    upgraded_is c.args.vendor.now c.args.issuer c.deref.result.now c.args.self.now.moved None c.in-None.ensures (c.deref.ensures.value ∙ ap (λ (v : MovesView). v.moved) c.self.view_is)
