use Rattle.std.proofs.Common.{◌≡◌, Bool, false, sym, ap, subst}
use Rattle.mc_records.specs.Views.{entry}
use Rattle.ledger_model.specs.Histories.{History}
use Rattle.house_core.specs.Session.{State}
use Rattle.mc_world.specs.Houses.{EntersOr, EntersAs}
use Rattle.mc_world.proofs.Entered.{not_entered_as}
use Rattle.mc_world.proofs.entering.enter_by.Goals as goal

pub returns-else-branch : goal.returns-else-branch
returns-else-branch g c =
    let e = entry c.args.r.now in
    let shop = c.in_ok-shop.shop in
    let time = c.house.inside.time in
    let s : State = record { history = c.house.inside.history; time = time } in
    let left : EntersOr g.T.Trade.passes shop.limits shop.history e c.enter.new.self.history false =
    subst (λ (b : Bool). EntersOr g.T.Trade.passes shop.limits shop.history e c.enter.new.self.history b) c.if-branch.false c.in_ok-enter.ensures.entered in
    let at : shop.history ≡ c.house.inside.history = ap (λ (x : State). x.history) c.in_ok-shop.ensures.opens in
    let as_left : EntersAs c.args.limits s e (record { history = c.enter.new.self.history; time = time }) =
    not_entered_as g.T.Trade.passes c.args.limits shop.limits s shop.history c.enter.new.self.history e c.in_ok-shop.ensures.limits at c.requires.passes left in
    let as_told = subst (λ (x : History). EntersAs c.args.limits s e (record { history = x; time = time })) (sym c.into_history-history-else-branch.ensures) as_left in
    record { entered = subst (λ (x : State). EntersAs c.args.limits x e (record { history = c.into_history-history-else-branch.result; time = time })) c.house.view_is as_told }
