use Rattle.std.proofs.Common.{◌≡◌, [], ◌∷◌, ◌++◌, refl, ◌∙◌, arith}
use Rattle.mc_records.specs.Entry.{Goods}
use Rattle.ledger_model.specs.Goods.{in_force}
use Rattle.house_core.specs.Bench.{house_time, limits_of}
use Rattle.house_core.specs.Tasks.{TellsLast}
use Rattle.house_core.proofs.RefusingLemmas.{refused_more}
use Rattle.house_core.proofs.TaskLemmas.{refuses}
use Rattle.vendor_core.specs.Shelf.{shelf_view}
use Rattle.vendor_core.proofs.OperatorLemmas.{goods_refused, goods_added}
use Rattle.vendor_core.proofs.operator.set_goods.Goals as goal

pub returns-then-bytes-gt-MOST_IN_FORCE-clause-exact :
    goal.returns-then-bytes-gt-MOST_IN_FORCE-clause-exact
returns-then-bytes-gt-MOST_IN_FORCE-clause-exact g c h st =
    let t = house_time c.args.house.bench in
    let bytes : c.in_force_with-bytes.result ≡ in_force (h ++ Goods t c.args.target.now c.args.price c.args.kind c.args.contents.now ∷ []) =
    rw c.bytes.ensures.value at (c.in_force_with-bytes.ensures h t c.args.price c.args.kind (c.trade.ensures h st)) in
    refuses g.D.Disk.disk shelf_view _ TellsLast (limits_of c.args.house.bench) c.args.house h (g.met.D.Disk.is_disk _) st _
    (goods_refused _ _ _ bytes c.if-bytes-gt-MOST_IN_FORCE.true)

pub enter_goods-requires-clause-within : goal.enter_goods-requires-clause-within
enter_goods-requires-clause-within g c h st =
    let t = house_time c.args.house.bench in
    let bytes : c.in_force_with-bytes.result ≡ in_force (h ++ Goods t c.args.target.now c.args.price c.args.kind c.args.contents.now ∷ []) =
    rw c.bytes.ensures.value at (c.in_force_with-bytes.ensures h t c.args.price c.args.kind (c.trade.ensures h st)) in
    omega (arith, bytes, c.if-bytes-gt-MOST_IN_FORCE.false)

pub returns-clause-exact : goal.returns-clause-exact
returns-clause-exact g c h st =
    let t = house_time c.args.house.bench in
    let bytes : c.in_force_with-bytes.result ≡ in_force (h ++ Goods t c.args.target.now c.args.price c.args.kind c.args.contents.now ∷ []) =
    rw c.bytes.ensures.value at (c.in_force_with-bytes.ensures h t c.args.price c.args.kind (c.trade.ensures h st)) in
    let p = c.enter_goods.ensures.exact h st in
    record { task = p.task; asks = p.asks ∙ goods_added _ _ _ bytes c.if-bytes-gt-MOST_IN_FORCE.false; does = p.does; ran = p.ran }

pub returns-clause-refusals : goal.returns-clause-refusals
returns-clause-refusals g c = refused_more (33 ∷ []) (33 ∷ 54 ∷ []) c.enter_goods.result refl c.enter_goods.ensures.refusals
