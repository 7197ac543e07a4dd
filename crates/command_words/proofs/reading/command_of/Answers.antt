use Rattle.std.proofs.Common.{ap, ap₂, sym, ◌∙◌, arith}
use Rattle.std.proofs.lemmas.List.{map_more}
use Rattle.clap.specs.Simple.{with_rule}
use Rattle.command_words.specs.Arguments.{command}
use Rattle.command_words.proofs.Exact.{one_more}
use Rattle.command_words.proofs.reading.command_of.Goals as goal

pub loop-argument-preserved : goal.loop-argument-preserved
loop-argument-preserved g c =
    c.in_ok-command.ensures.shape c.arg.ensures.global ∙ ap₂ with_rule c.loop-argument.invariant (c.arg.ensures.rule ∙ c.as_argument.ensures ∙ ap g.A.AsArgument.rule c.argument-item.is) ∙ one_more _ _
    ∙ ap command (sym (map_more g.A.AsArgument.rule c.args.arguments.now c.loop-argument.argument-index c.argument-item.result (omega (arith, c.loop-argument-test.true))))
