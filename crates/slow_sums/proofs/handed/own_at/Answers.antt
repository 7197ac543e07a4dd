use Rattle.std.proofs.Common.{◌∙◌, sym, ap, option_map}
use Rattle.mc_records.specs.Entry.{Accept}
use Rattle.mc_records.specs.Views.{deed_of}
use Rattle.ledger_model.specs.Histories.{History}
use Rattle.ledger_model.specs.Pieces.{handed_piece}
use Rattle.audit_model.specs.Parts.{part_of}
use Rattle.slow_sums.proofs.handed.own_at.Goals as goal

pub returns-in-Accept : goal.returns-in-Accept
returns-in-Accept c =
    let a = c.in-Accept in
    rw a.ensures.found (c.change_of.ensures a.moment a.target.now a.sign (deed_of a.deed)
    ∙ ap (λ (before : History). option_map part_of (handed_piece before (Accept a.moment a.scrip.now a.target.now a.sign a.price a.change (deed_of a.deed)))) c.first-before.ensures)

pub returns-in-Draw : goal.returns-in-Draw
returns-in-Draw c = rw c.in-Draw.ensures.found (rw (sym c.first-before.ensures) (c.drawn_by.ensures c.in-Draw.moment c.in-Draw.sign))
