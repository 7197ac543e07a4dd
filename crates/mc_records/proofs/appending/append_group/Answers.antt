use Rattle.std.proofs.Common.{◌++◌}
use Rattle.mc_fields.proofs.Puts.{appends_then}
use Rattle.mc_records.specs.Cells.{cell_bytes}
use Rattle.mc_records.proofs.appending.append_group.Goals as goal

pub returns : goal.returns
returns c =
    let g = c.args.group.now in
    appends_then c.args.out.now.items c.append_cell.new.out.items c.append_cell-3.new.out.items (cell_bytes g.0) (cell_bytes g.1 ++ cell_bytes g.2) c.append_cell-3.result c.in_ok-append_cell.ensures
    (appends_then c.append_cell.new.out.items c.append_cell-2.new.out.items c.append_cell-3.new.out.items (cell_bytes g.1) (cell_bytes g.2) c.append_cell-3.result c.in_ok-append_cell-2.ensures c.append_cell-3.ensures)
