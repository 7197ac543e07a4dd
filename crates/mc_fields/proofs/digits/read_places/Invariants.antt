use Rattle.std.proofs.Common.{◌*◌, ◌<◌, ◌++◌, drop}
use Rattle.mc_fields.specs.Reading.{hex_at}
use Rattle.mc_fields.proofs.HexLoop.{IsSoFar}
use Rattle.mc_fields.proofs.digits.read_places.Given as goal

abbrev pub invariant-loop-i : goal.invariant-loop-i
invariant-loop-i g l = l.most < 16 → IsSoFar g.row.N l.i l.out (drop (2 * l.i) l.front ++ l.rest) (hex_at g.row.N l.bytes)
