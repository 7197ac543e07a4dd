use Rattle.std.proofs.Common.{[], Option, None, true, false, subst, refl}
use Rattle.std.specs.Prelude.{IfSome}
use Rattle.mc_records.specs.Entry.{Entry, Accept}
use Rattle.mc_records.specs.Views.{deed_of}
use Rattle.ledger_model.specs.Stock.{Sale}
use Rattle.broker_stalls.specs.Vendors.{HasRoomToSell}
use Rattle.broker_stalls.proofs.VendorLaws.{none_learned, not_sale, no_sale, sold_is, supplied_stock, supplied_licence}
use Rattle.broker_stalls.proofs.stalls.Stalls.sell.Goals as goal

pub returns-in_default : goal.returns-in_default
returns-in_default c most h scrip sign price change stands answer =
    none_learned c.args.self.now h (Accept c.args.now scrip c.args.target.now sign price change (deed_of c.args.deed)) (λ q. refl)
    (not_sale c.args.deed c.in_default.not-Sale c.args.now scrip c.args.target.now sign price change) stands

pub returns-in_default-bought : goal.returns-in_default-bought
returns-in_default-bought c most h scrip sign price change stands answer =
    none_learned c.args.self.now h (Accept c.args.now scrip c.args.target.now sign price change (deed_of c.args.deed)) (λ q. refl)
    (no_sale c.args.deed c.args.target.now c.bought.result c.in-Sale.stock c.in-Sale.id c.in-Sale.is c.bought.ensures.asked c.in_default-bought.is c.args.now scrip sign price change) stands

pub sell_licensed-requires : goal.sell_licensed-requires
sell_licensed-requires c =
    let v = c.bytes-else-stock.result.now in
    let is = sold_is c.args.deed c.args.target.now c.bought.result c.in-Some.asked c.in-Sale.stock c.in-Sale.id c.in-Sale.is c.bought.ensures.asked c.in-Some.is false c.if-stock.false v c.bytes-else-stock.ensures.value 0 [] None 0 None in
    subst (λ (o : Option Sale). IfSome o (HasRoomToSell c.args.self.now)) is (c.requires 0 [] None 0 None) refl

pub returns-then-stock : goal.returns-then-stock
returns-then-stock c most h scrip sign price change stands answer =
    let v = c.bytes.result.now in
    let is = sold_is c.args.deed c.args.target.now c.bought.result c.in-Some.asked c.in-Sale.stock c.in-Sale.id c.in-Sale.is c.bought.ensures.asked c.in-Some.is true c.if-stock.true v c.bytes.ensures.value c.args.now scrip sign price change in
    let e : Entry = Accept c.args.now scrip c.args.target.now sign price change (deed_of c.args.deed) in
    let x : Sale = record { vendor = v; value = c.in-Some.asked.value; stock = true; id = c.in-Sale.id } in
    c.sell_from_stock.ensures h e c.in-Sale.id stands is (λ q. refl) (supplied_stock most h e x is refl answer)

pub returns-else-stock : goal.returns-else-stock
returns-else-stock c most h scrip sign price change stands answer =
    let v = c.bytes-else-stock.result.now in
    let is = sold_is c.args.deed c.args.target.now c.bought.result c.in-Some.asked c.in-Sale.stock c.in-Sale.id c.in-Sale.is c.bought.ensures.asked c.in-Some.is false c.if-stock.false v c.bytes-else-stock.ensures.value c.args.now scrip sign price change in
    let e : Entry = Accept c.args.now scrip c.args.target.now sign price change (deed_of c.args.deed) in
    let x : Sale = record { vendor = v; value = c.in-Some.asked.value; stock = false; id = c.in-Sale.id } in
    c.sell_licensed.ensures h e c.in-Some.asked.value stands is (λ q. refl) (supplied_licence most h e x is refl answer)
