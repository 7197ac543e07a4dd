use Rattle.std.proofs.Common.{ℕ, ◌<◌, get_or, map, string_bytes}
use Rattle.command_table.specs.declared.table.CommandName.{CommandName}
use Rattle.command_table.specs.declared.table.TheConstants.{COMMANDS}
use Rattle.command_table.specs.Beginning.{MayBegin}
use Rattle.mc_words.proofs.wrong.go_on.Given as goal

abbrev pub invariant-loop-name : goal.invariant-loop-name
invariant-loop-name l = (k : ℕ) → k < l.name-index → (d : CommandName) → MayBegin (get_or COMMANDS k d) (map string_bytes l.words) → ⊥
