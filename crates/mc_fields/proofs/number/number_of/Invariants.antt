use Rattle.std.proofs.Common.{◌≡◌, ◌≤◌, drop}
use Rattle.mc_fields.specs.Reading.{number_machine, field_of}
use Rattle.mc_fields.proofs.number.number_of.Given as goal

abbrev pub invariant-loop-byte : goal.invariant-loop-byte
invariant-loop-byte l = (l.value ≤ l.most) × (field_of (number_machine l.most 0) l.value (drop l.byte-index l.bytes) ≡ field_of (number_machine l.most 0) 0 l.bytes)
