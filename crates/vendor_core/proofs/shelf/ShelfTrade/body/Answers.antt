use Rattle.std.proofs.Common.{sym}
use Rattle.vendor_core.proofs.ShelfLaws.{edition_is_brought, none_is_held}
use Rattle.vendor_core.proofs.shelf.ShelfTrade.body.Goals as goal

pub returns-in-Some-clause-brought : goal.returns-in-Some-clause-brought
returns-in-Some-clause-brought c h stands kind held =
    rw (c.in-Goods.is, c.body.ensures.brings) (edition_is_brought c.args.self.now.catalogue h c.in-Goods.goods c.in-Some.edition.now stands.0.of_goods (sym c.in-Some.ensures))

pub returns-in-None-clause-brought : goal.returns-in-None-clause-brought
returns-in-None-clause-brought c h stands kind held =
    absurd (none_is_held c.args.self.now.catalogue c.in-Goods.goods (sym c.in-None.ensures) (rw c.in-Goods.is at held))
