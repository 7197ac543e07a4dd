use Rattle.std.proofs.Common.{◌≡◌, ℕ, ◌<◌, false, get_or}
use Rattle.command_table.specs.declared.parameter.Parameter.{Parameter}
use Rattle.command_table.specs.Parameters.{rule_of}
use Rattle.command_table.specs.Beginning.{is_option}
use Rattle.command_table.proofs.beginning.option_named.Given as goal

abbrev pub invariant-loop-parameter : goal.invariant-loop-parameter
invariant-loop-parameter l = (k : ℕ) → k < l.parameter-index → (d : Parameter) → is_option l.name (rule_of (get_or l.parameters k d)) ≡ false
