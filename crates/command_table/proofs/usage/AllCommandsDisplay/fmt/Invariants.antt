use Rattle.std.proofs.Common.{◌≡◌, ◌++◌, ℕ, List, drop, option_map}
use Rattle.std.specs.Fmt.{HasWritten, IsPlainFormatter}
use Rattle.command_table.specs.declared.table.TheConstants.{COMMANDS}
use Rattle.command_table.specs.Usage.{commands, names_behind}
use Rattle.command_table.proofs.usage.AllCommandsDisplay.fmt.Given as goal

abbrev pub invariant-loop-name : goal.invariant-loop-name
invariant-loop-name g l =
    IsPlainFormatter l.initial.f
    → (written : List ℕ) × HasWritten g.W.Write.write_str_gives l.initial.f written l.f × (written ++ names_behind (option_map (λ r. r.now) l.self.role) l.before (drop l.name-index COMMANDS) ≡ commands (option_map (λ r. r.now) l.self.role))
