use Rattle.std.proofs.Common.{List, sym, ap, ◌∙◌}
use Rattle.ledger_model.specs.declared.upgraded.Upgraded.{Upgraded}
use Rattle.ledger_model.specs.Houses.{version_by}
use Rattle.broker_core.specs.Moves.{moves_of}
use Rattle.house_state.specs.Trade.{BringsFor}
use Rattle.broker_stalls.proofs.HeldLaws.{piece_fits}
use Rattle.broker_core.proofs.SaleLaws.{by_licence, made_brings, none_open, one_open, stock_brings, on_ok}
use Rattle.broker_core.proofs.sale.sold_from.Goals as goal

pub returns-in-Some-clause-deed : goal.returns-in-Some-clause-deed
returns-in-Some-clause-deed c h shows =
    c.sold_under.ensures.deed ∙ by_licence h c.args.asked.now.vendor c.args.stall.now c.args.limits.series c.args.time c.args.asked.now.value c.in-Some.terms.now _ _ c.series_at.result c.count-count.result
    shows c.in-Some.ensures.terms c.series_at.ensures.series c.count-count.ensures.count

pub returns-in-Some-clause-brings : goal.returns-in-Some-clause-brings
returns-in-Some-clause-brings c h target shows moves asks =
    let v = c.args.asked.now.vendor in
    made_brings h target v c.args.stall.now c.args.asked.now.value (version_by (moves_of c.args.moves.now.moved v)) c.in-Some.terms.now c.sold_under.result
    shows asks c.in-Some.ensures.terms (λ series. ap (λ (us : List Upgraded). version_by us series) (moves v)) c.sold_under.ensures.made

pub returns-in-Some-first-clause-deed : goal.returns-in-Some-first-clause-deed
returns-in-Some-first-clause-deed c h shows =
    let fits = piece_fits h c.args.asked.now.vendor c.args.stall.now c.args.time c.args.asked.now.value c.in-Some-first.piece shows (sym c.in-Some-first.ensures) in
    one_open h c.args.asked.now.vendor c.args.stall.now c.args.limits.series c.args.time c.args.asked.now.value c.in-Some-first.piece c.sold_out_of_stock.result
    shows c.in-None.ensures.terms (sym c.is_known.ensures ∙ c.if-not-is_known.false) c.in-Some-first.ensures (c.sold_out_of_stock.ensures.sold fits)

pub returns-in-Some-first-clause-brings : goal.returns-in-Some-first-clause-brings
returns-in-Some-first-clause-brings c h target shows moves asks =
    let fits = piece_fits h c.args.asked.now.vendor c.args.stall.now c.args.time c.args.asked.now.value c.in-Some-first.piece shows (sym c.in-Some-first.ensures) in
    on_ok (BringsFor h target) c.sold_out_of_stock.result (c.sold_out_of_stock.ensures.sold fits) (stock_brings h target c.args.asked.now.vendor c.args.stall.now c.args.time c.args.asked.now.value c.in-Some-first.piece shows asks c.in-Some-first.ensures)

pub returns-in-None-first-clause-deed : goal.returns-in-None-first-clause-deed
returns-in-None-first-clause-deed c h shows =
    none_open h c.args.asked.now.vendor c.args.stall.now c.args.limits.series c.args.time c.args.asked.now.value c.get.result
    shows c.in-None.ensures.terms (sym c.is_known.ensures ∙ c.if-not-is_known.false) c.in-None-first.ensures c.get.ensures.units
