use Rattle.std.proofs.Common.{◌≡◌, drop}
use Rattle.mc_fields.specs.Reading.{literal_at}
use Rattle.mc_fields.proofs.literal.read_literal.Given as goal

abbrev pub invariant-loop-wanted : goal.invariant-loop-wanted
invariant-loop-wanted l = literal_at (drop l.wanted-index l.text) l.rest ≡ literal_at l.text l.bytes
