use Rattle.vendor_core.proofs.CatalogueLaws.{goods_none}
use Rattle.vendor_core.proofs.catalogue.Catalogue.new.Goals as goal

pub returns : goal.returns
returns c = goods_none _ _ _ c.new.ensures.empty c.new-2.ensures.places c.new-3.ensures.items
