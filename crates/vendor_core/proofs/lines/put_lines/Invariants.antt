use Rattle.std.proofs.Common.{◌≡◌, ◌+◌, ◌≤◌, ◌^◌, Some}
use Rattle.scrip_form.specs.Issuing.{Issuing}
use Rattle.ledger_model.specs.Histories.{History}
use Rattle.ledger_model.specs.Houses.{site_name, terms_in, version}
use Rattle.ledger_model.specs.Pieces.{run_from}
use Rattle.house_core.specs.House.{HouseRepresents}
use Rattle.vendor_core.specs.Lines.{piece_lines}
use Rattle.vendor_core.specs.Shelf.{shelf_view}
use Rattle.vendor_core.proofs.lines.put_lines.Given as goal

abbrev pub invariant-loop-i : goal.invariant-loop-i
invariant-loop-i g l = (h : History) (terms : Issuing) → HouseRepresents g.D.Disk.disk shelf_view l.house h → terms_in h 0 ≡ Some terms → l.first + l.count ≤ 2 ^ 64
    → l.out.items ≡ piece_lines (version h (site_name h)) terms (run_from h l.value l.first l.i)
