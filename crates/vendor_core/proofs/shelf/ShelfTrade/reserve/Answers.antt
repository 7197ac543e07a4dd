use Rattle.std.proofs.Common.{Option, Some, ap, sym, ◌∙◌}
use Rattle.mc_records.specs.Entry.{Entry}
use Rattle.vendor_core.proofs.ShelfLaws.{goods_only, references_only}
use Rattle.vendor_core.proofs.shelf.ShelfTrade.reserve.Goals as goal

pub returns-in_err-reserve-in-Goods-clause-same : goal.returns-in_err-reserve-in-Goods-clause-same
returns-in_err-reserve-in-Goods-clause-same c h stands = (goods_only _ _ _ _ _ _ h (c.reserve-in-Goods.ensures.same h stands.0.of_goods) stands.0, stands.1)

pub returns-in_err-reserve-in-Goods-2-clause-same : goal.returns-in_err-reserve-in-Goods-2-clause-same
returns-in_err-reserve-in-Goods-2-clause-same c h stands = (goods_only _ _ _ _ _ _ h (c.reserve-in-Goods.ensures.same h stands.0.of_goods) stands.0, stands.1 ∙ sym c.reserve-in-Goods-2.ensures.listed)

pub returns-in_err-copy_of-in-Goods-clause-same : goal.returns-in_err-copy_of-in-Goods-clause-same
returns-in_err-copy_of-in-Goods-clause-same c h stands = (goods_only _ _ _ _ _ _ h (c.reserve-in-Goods.ensures.same h stands.0.of_goods) stands.0, stands.1 ∙ sym c.reserve-in-Goods-2.ensures.listed)

pub returns-in_ok-copy_of-in-Goods-clause-same : goal.returns-in_ok-copy_of-in-Goods-clause-same
returns-in_ok-copy_of-in-Goods-clause-same c h stands = (goods_only _ _ _ _ _ _ h (c.reserve-in-Goods.ensures.same h stands.0.of_goods) stands.0, stands.1 ∙ sym c.reserve-in-Goods-2.ensures.listed)

pub returns-in_ok-copy_of-in-Goods-clause-room : goal.returns-in_ok-copy_of-in-Goods-clause-room
returns-in_ok-copy_of-in-Goods-clause-room c =
    let some : Entry → Option Entry = λ e. Some e in
    rw c.in-Goods.is (record { place = c.in_ok-reserve-in-Goods.ensures.room; listed = c.in_ok-reserve-in-Goods-2.ensures.room; ready = ap some (c.in_ok-copy_of-in-Goods.ensures c.in-Goods.moment c.in-Goods.target.now) })

pub returns-in_err-reserve-in-Mint-2-clause-same : goal.returns-in_err-reserve-in-Mint-2-clause-same
returns-in_err-reserve-in-Mint-2-clause-same c h stands = rw c.reserve-in-Mint.ensures.items (references_only _ _ _ _ _ _ h c.reserve-in-Mint-2.ensures.places stands.0, stands.1)

pub returns-in_ok-reserve-in-Mint-2-clause-same : goal.returns-in_ok-reserve-in-Mint-2-clause-same
returns-in_ok-reserve-in-Mint-2-clause-same c h stands = rw c.reserve-in-Mint.ensures.items (references_only _ _ _ _ _ _ h c.reserve-in-Mint-2.ensures.places stands.0, stands.1)
