use Rattle.std.proofs.Common.{◌≡◌, drop}
use Rattle.command_table.specs.declared.table.TheConstants.{COMMANDS}
use Rattle.command_table.specs.Naming.{named_among}
use Rattle.command_table.proofs.table.named.Given as goal

abbrev pub invariant-loop-name : goal.invariant-loop-name
invariant-loop-name l = named_among COMMANDS l.role l.command ≡ named_among (drop l.name-index COMMANDS) l.role l.command
