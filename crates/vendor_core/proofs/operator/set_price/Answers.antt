use Rattle.std.proofs.Common.{◌≡◌, ◌≤◌, Option, sym, ap, ◌∙◌, arith, [], ◌∷◌, refl}
use Rattle.mc_records.specs.Entry.{Entry, Goods}
use Rattle.ledger_model.specs.declared.numbers.TheConstants.{MOST_IN_FORCE}
use Rattle.ledger_model.specs.Goods.{goods_kind, goods_contents, in_force}
use Rattle.house_core.specs.Bench.{house_time, limits_of}
use Rattle.house_core.specs.Tasks.{Add, TellsLast}
use Rattle.house_core.proofs.RefusingLemmas.{refused_more}
use Rattle.house_core.proofs.TaskLemmas.{refuses, wants_memory}
use Rattle.vendor_core.specs.Shelf.{shelf_view}
use Rattle.vendor_core.specs.Tasks.{repriced, price_task}
use Rattle.vendor_core.proofs.OperatorLemmas.{repriced_adds, repriced_within}
use Rattle.vendor_core.proofs.operator.set_price.Goals as goal

pub returns-in_default-clause-exact : goal.returns-in_default-clause-exact
returns-in_default-clause-exact g c h st =
    let none = rw c.bytes.ensures.value at (c.in_default.ensures.goods h (c.trade.ensures h st)) in
    refuses g.D.Disk.disk shelf_view _ TellsLast (limits_of c.args.house.bench) c.args.house h (g.met.D.Disk.is_disk _) st _
    (sym (ap (λ (o : Option Entry). repriced (house_time c.args.house.bench) c.args.target.now c.args.price o) none))

pub returns-in-Err-clause-exact : goal.returns-in-Err-clause-exact
returns-in-Err-clause-exact g c h st =
    let t = house_time c.args.house.bench in
    let goods = rw c.bytes.ensures.value at (c.in-Some.ensures.goods h (c.trade.ensures h st)) in
    wants_memory g.D.Disk.disk shelf_view _ TellsLast (limits_of c.args.house.bench) c.args.house h (g.met.D.Disk.is_disk _) st
    (Add (Goods t c.args.target.now c.args.price (goods_kind goods.0) (goods_contents goods.0))) tt
    (sym (ap (λ (o : Option Entry). repriced t c.args.target.now c.args.price o) goods.1))

pub enter_goods-requires-clause-within : goal.enter_goods-requires-clause-within
enter_goods-requires-clause-within g c h st =
    let stands = c.trade.ensures h st in
    let most : in_force h ≤ MOST_IN_FORCE = omega (arith, stands.0.in_force, stands.0.most) in
    let goods = rw c.bytes.ensures.value at (c.in-Some.ensures.goods h stands) in
    repriced_within h (house_time c.args.house.bench) c.args.price _ c.args.target.now _ goods.0 most goods.1 (rw (c.deref.ensures.value, c.in-Ok.ensures.items) goods.3)

pub returns-clause-exact : goal.returns-clause-exact
returns-clause-exact g c h st =
    let t = house_time c.args.house.bench in
    let goods = rw c.bytes.ensures.value at (c.in-Some.ensures.goods h (c.trade.ensures h st)) in
    let same : Add (Goods t c.args.target.now c.args.price c.in-Some.goods.kind c.deref.result.now) ≡ price_task h t c.args.target.now c.args.price =
    repriced_adds h t c.args.price _ c.args.target.now _ goods.0 goods.1 goods.2 (rw (c.deref.ensures.value, c.in-Ok.ensures.items) goods.3) in
    let p = c.enter_goods.ensures.exact h st in
    record { task = p.task; asks = p.asks ∙ same; does = p.does; ran = p.ran }

pub returns-clause-refusals : goal.returns-clause-refusals
returns-clause-refusals g c = refused_more (33 ∷ []) (30 ∷ 33 ∷ []) c.enter_goods.result refl c.enter_goods.ensures.refusals
