use Rattle.std.proofs.Common.{flat_map, take}
use Rattle.std.specs.Fmt.{HasWritten, IsPlainFormatter}
use Rattle.command_table.specs.Usage.{shown}
use Rattle.command_table.proofs.usage.AllParametersDisplay.fmt.Given as goal

abbrev pub invariant-loop-parameter : goal.invariant-loop-parameter
invariant-loop-parameter g l = IsPlainFormatter l.initial.f → HasWritten g.W.Write.write_str_gives l.initial.f (flat_map shown (take l.parameter-index l.parameter-items)) l.f
