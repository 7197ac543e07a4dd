use Rattle.std.proofs.Common.{refl}
use Rattle.vendor_core.proofs.CatalogueLaws.{goods_same}
use Rattle.vendor_core.proofs.catalogue.Catalogue.reserve.Goals as goal

pub returns-in_err-reserve-2-clause-same : goal.returns-in_err-reserve-2-clause-same
returns-in_err-reserve-2-clause-same c h stands =
    rw c.reserve-2.ensures.items (goods_same _ _ _ _ _ h c.reserve.ensures.entries.2 (λ t. refl) stands)

pub returns-clause-same : goal.returns-clause-same
returns-clause-same c h stands = rw c.reserve-2.ensures.items (goods_same _ _ _ _ _ h c.reserve.ensures.entries.2 c.reserve-3.ensures.places stands)
