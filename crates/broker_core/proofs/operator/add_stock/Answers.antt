use Rattle.std.proofs.Common.{[], ◌∷◌, refl}
use Rattle.mc_records.specs.Entry.{Stock}
use Rattle.house_core.specs.Bench.{house_time, limits_of}
use Rattle.house_core.specs.Tasks.{Add}
use Rattle.house_core.proofs.TaskLemmas.{refuses, wants_memory}
use Rattle.broker_core.specs.Desk.{desk_view}
use Rattle.broker_core.specs.Tasks.{stock_lines, pieces_in, TellsCount}
use Rattle.broker_core.proofs.StockLemmas.{stock_refused, stock_added, stock_broken}
use Rattle.house_core.proofs.RefusingLemmas.{among_more, refused_more}
use Rattle.broker_core.proofs.operator.add_stock.Goals as goal

pub returns-in-Some-clause-exact : goal.returns-in-Some-clause-exact
returns-in-Some-clause-exact g c h st =
    let shows = rw c.bytes.ensures.value at (c.stall.ensures.shows h (c.trade.ensures h st)) in
    refuses g.D.Disk.disk desk_view _ (TellsCount c.args.vendor.now c.args.lines.now) (limits_of c.args.house.bench) c.args.house h (g.met.D.Disk.is_disk _) st _
    (stock_refused h (house_time c.args.house.bench) c.args.vendor.now c.args.lines.now c.in-Some.refusal (c.in-Some.ensures.exact h shows))

pub enter_stock-requires-clause-new : goal.enter_stock-requires-clause-new
enter_stock-requires-clause-new g c h st =
    c.in_default.ensures.exact h (rw c.bytes.ensures.value at (c.stall.ensures.shows h (c.trade.ensures h st)))

pub returns-in-Err-Line-clause-exact : goal.returns-in-Err-Line-clause-exact
returns-in-Err-Line-clause-exact g c h st =
    let told = rw c.in-Err-Line.field-0-is at c.in-Err-Line.ensures.tells in
    refuses g.D.Disk.disk desk_view _ (TellsCount c.args.vendor.now c.args.lines.now) (limits_of c.args.house.bench) c.args.house h (g.met.D.Disk.is_disk _) st _
    (stock_broken h (house_time c.args.house.bench) c.args.vendor.now c.args.lines.now c.from.result (rw c.from.ensures told))

pub returns-clause-exact : goal.returns-clause-exact
returns-clause-exact g c h st =
    let shows = rw c.bytes.ensures.value at (c.stall.ensures.shows h (c.trade.ensures h st)) in
    wants_memory g.D.Disk.disk desk_view _ (TellsCount c.args.vendor.now c.args.lines.now) (limits_of c.args.house.bench) c.args.house h (g.met.D.Disk.is_disk _) st
    (Add (Stock (house_time c.args.house.bench) c.args.vendor.now (pieces_in (stock_lines c.args.vendor.now c.args.lines.now)))) tt
    (stock_added h (house_time c.args.house.bench) c.args.vendor.now c.args.lines.now (c.in_default.ensures.exact h shows))

pub returns-in-Some-clause-refusals : goal.returns-in-Some-clause-refusals
returns-in-Some-clause-refusals g c = among_more (53 ∷ 57 ∷ []) (33 ∷ 53 ∷ 57 ∷ []) c.in-Some.refusal refl c.in-Some.ensures.refusals

pub returns-in-Ok-clause-refusals : goal.returns-in-Ok-clause-refusals
returns-in-Ok-clause-refusals g c = refused_more (33 ∷ []) (33 ∷ 53 ∷ 57 ∷ []) c.enter_stock.result refl c.enter_stock.ensures.refusals
