use Rattle.mc_records.specs.Views.{deed_of}
use Rattle.audit_sums.proofs.readings.handed.Goals as goal

pub returns-in-Accept : goal.returns-in-Accept
returns-in-Accept c h terms =
    let a = c.in-Accept in
    rw a.is (c.change_of.ensures h a.moment a.scrip.now a.target.now a.sign (deed_of a.deed) terms (rw a.is at c.requires))

pub returns-in-Draw : goal.returns-in-Draw
returns-in-Draw c h terms = rw c.in-Draw.is (c.drawn_by.ensures h c.in-Draw.moment c.in-Draw.sign terms)
