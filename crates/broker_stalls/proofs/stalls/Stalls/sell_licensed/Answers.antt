use Rattle.std.proofs.Common.{false, ap, ◌∙◌}
use Rattle.std.specs.Prelude.{is_some}
use Rattle.ledger_model.specs.Stock.{Sale}
use Rattle.broker_stalls.proofs.EntryLaws.{sale_shown}
use Rattle.broker_stalls.proofs.VendorLaws.{at_place, learned_at, only_sale, on_true}
use Rattle.broker_stalls.proofs.stalls.Stalls.sell_licensed.Goals as goal

pub returns-in-Some : goal.returns-in-Some
returns-in-Some c h e value stands is none licence =
    let at = at_place c.get.ensures c.in-Some.is c.index_mut.ensures.value c.self.invariant in
    let x = c.index_mut.result.now in
    let y = c.sell_licensed.new.self in
    let sold : Sale = record { vendor = c.args.vendor.now; value = value; stock = false; id = c.args.id } in
    learned_at c.self.view_is at y h e (only_sale e sold is none) stands
    (λ shows. let ok = c.sell_licensed.ensures.some ∙ ap is_some shows.terms ∙ licence in
    sale_shown h c.args.vendor.now x y e value c.args.id is (none c.args.vendor.now)
    c.sell_licensed.ensures.terms (on_true _ ok c.sell_licensed.ensures.counts) c.sell_licensed.ensures.ids c.sell_licensed.ensures.racks shows)
