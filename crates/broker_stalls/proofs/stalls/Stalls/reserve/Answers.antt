use Rattle.broker_stalls.proofs.VendorLaws.{represents_alike, alike_twice}
use Rattle.broker_stalls.proofs.stalls.Stalls.reserve.Goals as goal

pub returns-in_err-place-in-Stock-clause-same : goal.returns-in_err-place-in-Stock-clause-same
returns-in_err-place-in-Stock-clause-same c h = represents_alike c.args.self.now c.place-in-Stock.new.self h c.place-in-Stock.ensures.same

pub returns-in-Licence-clause-same : goal.returns-in-Licence-clause-same
returns-in-Licence-clause-same c h = represents_alike c.args.self.now c.place.new.self h c.place.ensures.same

pub returns-in_ok-place-in-Stock-clause-same : goal.returns-in_ok-place-in-Stock-clause-same
returns-in_ok-place-in-Stock-clause-same c h =
    represents_alike c.args.self.now c.reserve_stock.new.self h
    (alike_twice c.args.self.now c.place-in-Stock.new.self c.reserve_stock.new.self c.place-in-Stock.ensures.same c.reserve_stock.ensures.same)

pub returns-in-Accept-clause-room : goal.returns-in-Accept-clause-room
returns-in-Accept-clause-room c = rw c.in-Accept.is (c.reserve_sale.ensures.room c.in-Accept.moment c.in-Accept.scrip.now c.in-Accept.sign c.in-Accept.price c.in-Accept.change)

pub returns-in-Accept-clause-same : goal.returns-in-Accept-clause-same
returns-in-Accept-clause-same c h = represents_alike c.args.self.now c.reserve_sale.new.self h c.reserve_sale.ensures.same
