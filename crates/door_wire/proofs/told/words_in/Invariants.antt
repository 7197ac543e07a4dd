use Rattle.std.proofs.Common.{◌≡◌, ◌++◌, length, map}
use Rattle.std.specs.Prelude.{string_bytes}
use Rattle.door_wire.specs.Wire.{words_of}
use Rattle.door_wire.proofs.told.words_in.Given as goal

abbrev pub invariant-words : goal.invariant-words
invariant-words l = record { so : words_of l.fn.line ≡ map string_bytes l.words.items ++ words_of l.rest }

abbrev pub decreases-words : goal.decreases-words
decreases-words l = length l.rest
