use Rattle.std.proofs.Common.{◌≡◌, ◌++◌, map, drop}
use Rattle.std.specs.Prelude.{string_bytes}
use Rattle.door_wire.specs.Wire.{spaced}
use Rattle.door_wire.proofs.spelling.put_words.Given as goal

abbrev pub invariant-loop-word : goal.invariant-loop-word
invariant-loop-word l = l.out.items ++ spaced (map string_bytes (drop l.word-index l.words)) ≡ l.fn.out.items ++ spaced (map string_bytes l.words)
