use Rattle.std.proofs.Common.{sym}
use Rattle.vendor_core.proofs.ShelfLaws.{shelf_none}
use Rattle.vendor_core.proofs.shelf.Shelf.new.Goals as goal

pub returns : goal.returns
returns c = (shelf_none _ _ _ _ c.new.ensures c.new-3.ensures.items c.new-5.ensures.places, sym c.new-2.ensures.listed)
