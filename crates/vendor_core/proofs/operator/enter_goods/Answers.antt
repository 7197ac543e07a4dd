use Rattle.std.proofs.Common.{◌≡◌, ap}
use Rattle.mc_records.specs.Entry.{Entry, Goods}
use Rattle.house_core.specs.Bench.{house_time, limits_of}
use Rattle.house_core.specs.Tasks.{Add}
use Rattle.house_core.proofs.TaskLemmas.{enters_last}
use Rattle.vendor_core.specs.Shelf.{shelf_view}
use Rattle.vendor_core.proofs.operator.enter_goods.Goals as goal

pub returns-clause-exact : goal.returns-clause-exact
returns-clause-exact g c h st =
    let t = house_time c.args.house.bench in
    let e = Goods c.time.result c.bytes.result.now c.get.result c.args.kind c.args.contents.now in
    let same : e ≡ Goods t c.args.target.now c.args.price c.args.kind c.args.contents.now = cc (c.time.ensures, c.bytes.ensures.value, c.get.ensures.units) in
    enters_last g.D.Disk.disk shelf_view (λ task. task ≡ Add (Goods t c.args.target.now c.args.price c.args.kind c.args.contents.now)) (limits_of c.args.house.bench)
    c.args.house.journal.disk h e c.enter.result (ap (λ (x : Entry). Add x) same) (c.enter.ensures.exact h st) (c.enter.ensures.ran h st)
