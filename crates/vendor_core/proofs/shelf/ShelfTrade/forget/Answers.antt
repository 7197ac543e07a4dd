use Rattle.vendor_core.proofs.ShelfLaws.{goods_only}
use Rattle.vendor_core.proofs.shelf.ShelfTrade.forget.Goals as goal

pub returns-clause-same : goal.returns-clause-same
returns-clause-same c h stands = (goods_only _ _ _ _ _ _ h (c.forget.ensures.same h stands.0.of_goods) stands.0, stands.1)

pub returns-clause-held : goal.returns-clause-held
returns-clause-held c h n stands kept held = c.forget.ensures.held h n stands.0.of_goods kept held

pub returns-clause-freed : goal.returns-clause-freed
returns-clause-freed c h n stands held = c.forget.ensures.freed h n stands.0.of_goods held
