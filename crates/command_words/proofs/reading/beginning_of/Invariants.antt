use Rattle.std.proofs.Common.{◌≡◌, map, take}
use Rattle.clap.specs.Simple.{app_of}
use Rattle.command_words.specs.Arguments.{command, optional}
use Rattle.command_words.proofs.reading.beginning_of.Given as goal

abbrev pub invariant-loop-argument : goal.invariant-loop-argument
invariant-loop-argument g l = app_of l.command ≡ command (map optional (map g.A.AsArgument.rule (take l.argument-index l.arguments)))
