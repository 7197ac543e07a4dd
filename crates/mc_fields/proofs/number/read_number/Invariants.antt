use Rattle.std.proofs.Common.{◌≡◌, ◌≤◌, length}
use Rattle.mc_fields.specs.Reading.{field_at, number_machine, number_at}
use Rattle.mc_fields.proofs.number.read_number.Given as goal

abbrev pub invariant-loop-byte : goal.invariant-loop-byte
invariant-loop-byte l = (l.value ≤ l.most) × (field_at (number_machine l.most l.stop) l.value l.rest ≡ number_at l.most l.stop l.bytes)

abbrev pub decreases-loop-byte : goal.decreases-loop-byte
decreases-loop-byte l = length l.rest
