use Rattle.std.proofs.Common.{arith}
use Rattle.mc_records.specs.Views.{deed_of}
use Rattle.slow_ledger.proofs.counts.pieces_at.Goals as goal

pub returns-in-Accept : goal.returns-in-Accept
returns-in-Accept c =
    rw c.in-Accept.ensures.found (λ before. omega (arith, c.changes_of.ensures before c.in-Accept.moment c.in-Accept.price c.in-Accept.target.now c.in-Accept.sign (deed_of c.in-Accept.deed)))

pub returns-in-Draw : goal.returns-in-Draw
returns-in-Draw c = rw c.in-Draw.ensures.found (λ before. omega (arith, c.draws_of.ensures before c.in-Draw.moment c.in-Draw.sign))
