use Rattle.std.proofs.Common.{inr, refl, sym}
use Rattle.door_wire.specs.Wire.{words_of}
use Rattle.door_wire.proofs.told.read_told.Goals as goal

pub returns-in-None-clause-none : goal.returns-in-None-clause-none
returns-in-None-clause-none c none =
    inr (words_of c.in-Some.line.now, c.in-Some.input.now, record { line = c.in-Some.line.now; parts = sym (rw c.in-Some.is at c.parts.ensures); words' = refl }, (rw c.in-None.is at c.in_ok-words.ensures.none) refl)
