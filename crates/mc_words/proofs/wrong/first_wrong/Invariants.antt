use Rattle.std.proofs.Common.{ℕ, ◌+◌, ◌<◌, map, string_bytes, take}
use Rattle.mc_words.specs.Wrong.{GoOn}
use Rattle.mc_words.proofs.wrong.first_wrong.Given as goal

abbrev pub invariant-loop-place : goal.invariant-loop-place
invariant-loop-place l = (m : ℕ) → m < l.place → GoOn (take (m + 1) (map string_bytes l.words))
