use Rattle.std.proofs.Common.{arith, ◌++◌}
use Rattle.mc_fields.proofs.Puts.{puts_then}
use Rattle.mc_records.specs.Cells.{cell_bytes}
use Rattle.mc_records.proofs.writing.put_group.Goals as goal

pub returns : goal.returns
returns c =
    let g = c.args.group.now in
    puts_then c.args.out.now c.put_cell.new.out c.put_cell-3.new.out c.args.at c.in_ok-at.at (cell_bytes g.0) (cell_bytes g.1 ++ cell_bytes g.2) c.put_cell-3.result c.requires.at c.put_cell.auto.out c.in_ok-at.ensures
    (puts_then c.put_cell.new.out c.put_cell-2.new.out c.put_cell-3.new.out c.in_ok-at.at c.in_ok-at-2.at (cell_bytes g.1) (cell_bytes g.2) c.put_cell-3.result (omega (arith, c.in_ok-at.ensures.1, c.put_cell.auto.out)) c.put_cell-2.auto.out c.in_ok-at-2.ensures c.put_cell-3.ensures)
