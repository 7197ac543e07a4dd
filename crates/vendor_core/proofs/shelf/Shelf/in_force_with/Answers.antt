use Rattle.std.proofs.Common.{arith}
use Rattle.vendor_core.proofs.ShelfLaws.{in_force_now}
use Rattle.vendor_core.proofs.shelf.Shelf.in_force_with.Goals as goal

pub returns : goal.returns
returns c h m price kind stands =
    let now = in_force_now _ _ _ _ c.args.self.now.in_force c.bytes_at.result h m price kind c.args.target.now c.args.contents.now stands.0 c.bytes_at.ensures in
    omega (arith, now, stands.0.most, c.requires, c.saturating_sub-others.ensures, c.saturating_add.ensures)
