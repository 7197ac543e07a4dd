use Rattle.std.proofs.Common.{subst, arith}
use Rattle.mc_records.specs.Views.{entry}
use Rattle.ledger_model.specs.Houses.{IsHouseKind}
use Rattle.house_opening.proofs.Learned.{site_enters}
use Rattle.house_opening.proofs.opening.HouseOpenerOpener.begin.Goals as goal

pub returns-in-Ok-clause-exact : goal.returns-in-Ok-clause-exact
returns-in-Ok-clause-exact g c =
    let kind = (g.T.Trade.trade c.args.self.trade).site in
    let house : IsHouseKind kind = subst IsHouseKind c.kind.ensures (c.is_house.ensures.0 c.if-not-is_house.false) in (
      site_enters g.T.Trade.passes c.args.self.limits kind (entry c.args.first.now) c.requires.kind house,
      record { house = record { represents = c.in-Ok.ensures.holds; contents = c.in-Ok.ensures.contents }; time' = omega (arith, c.in-Ok.ensures.time) },
    )
