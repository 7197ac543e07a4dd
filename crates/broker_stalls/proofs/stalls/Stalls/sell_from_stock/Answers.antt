use Rattle.std.proofs.Common.{true, sym, subst, ◌∙◌}
use Rattle.ledger_model.specs.Stock.{Sale}
use Rattle.broker_stalls.specs.Shown.{Shows}
use Rattle.broker_stalls.proofs.EntryLaws.{stock_sale_shown}
use Rattle.broker_stalls.proofs.VendorLaws.{at_place, learned_at, only_sale, none_for_sale, none_at}
use Rattle.broker_stalls.proofs.stalls.Stalls.sell_from_stock.Goals as goal

pub returns-in-Some : goal.returns-in-Some
returns-in-Some c h e id stands is none from =
    let at = at_place c.get.ensures c.in-Some.is c.index_mut.ensures.value c.self.invariant in
    let x = c.index_mut.result.now in
    let y = c.sell_first.new.self in
    let sold : Sale = record { vendor = c.args.vendor.now; value = c.args.value; stock = true; id = id } in
    learned_at c.self.view_is at y h e (only_sale e sold is none) stands
    (λ shows. stock_sale_shown h c.args.vendor.now x y e c.args.now c.args.value id from.piece is (none c.args.vendor.now) from.first from.is
    c.sell_first.ensures.licence c.sell_first.ensures.ids c.sell_first.ensures.sold shows)

pub returns-in-None : goal.returns-in-None
returns-in-None c h e id stands is none from =
    let here = none_at c.args.vendor.now c.self.view_is (sym c.get.ensures ∙ c.in-None.is) in
    absurd (none_for_sale h c.args.vendor.now c.args.now c.args.value from.piece (subst (Shows h c.args.vendor.now) here (stands c.args.vendor.now)) from.first)
