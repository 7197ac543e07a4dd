use Rattle.std.proofs.Common.{ℕ, Some, None, ap, ◌∙◌, arith}
use Rattle.std.proofs.lemmas.List.{length-take}
use Rattle.mc_requests.specs.declared.refusal.Refusal.TheVariants.{StockTwice}
use Rattle.broker_stalls.specs.Vendors.{found_stall}
use Rattle.broker_core.proofs.StockLemmas.{refusal_is}
use Rattle.broker_core.proofs.stock.refusal_of.Goals as goal

pub slice_bounds-ids-end : goal.slice_bounds-ids-end
slice_bounds-ids-end c = omega (arith, c.from-2.ensures, c.in-Ok.ensures.few, c.read_piece_ids.auto.ids)

pub slice_bounds-first_twice-end : goal.slice_bounds-first_twice-end
slice_bounds-first_twice-end c = omega (arith, c.from-2.ensures, c.in-Ok.ensures.few, c.read_piece_ids.auto.ids, length-take c.from-2.result c.read_piece_ids.new.ids)

pub returns-in-Some-clause-exact : goal.returns-in-Some-clause-exact
returns-in-Some-clause-exact c h shows =
    ap (λ (id : ℕ). Some (StockTwice id)) c.of_number.ensures
    ∙ refusal_is h c.args.vendor.now c.args.lines.now (found_stall c.args.stall) c.read_piece_ids.new.ids c.in-Ok.count (Some c.in-Some.id) shows c.in-Ok.ensures.tells
    (rw c.from-2.ensures at c.in-Some.ensures)

pub returns-in-None-clause-exact : goal.returns-in-None-clause-exact
returns-in-None-clause-exact c h shows =
    refusal_is h c.args.vendor.now c.args.lines.now (found_stall c.args.stall) c.read_piece_ids.new.ids c.in-Ok.count None shows c.in-Ok.ensures.tells
    (rw c.from-2.ensures at c.in-None.ensures)
