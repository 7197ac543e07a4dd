use Rattle.mc_fields.specs.Reading.{hex_at}
use Rattle.mc_fields.proofs.HexLoop.{IsSoFar}
use Rattle.mc_fields.proofs.digits.read_each.Given as goal

abbrev pub invariant-loop-i : goal.invariant-loop-i
invariant-loop-i g l = IsSoFar g.row.N l.i l.out l.rest (hex_at g.row.N l.bytes)
