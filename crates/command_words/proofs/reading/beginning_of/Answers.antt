use Rattle.std.proofs.Common.{ap, ap₂, map, sym, ◌∙◌, arith}
use Rattle.std.proofs.lemmas.List.{map-append, map_more}
use Rattle.clap.specs.Walk.{rule_of}
use Rattle.clap.specs.Simple.{with_rule}
use Rattle.command_words.specs.Arguments.{command, optional}
use Rattle.command_words.proofs.Exact.{one_more}
use Rattle.command_words.proofs.reading.beginning_of.Goals as goal

pub loop-argument-preserved : goal.loop-argument-preserved
loop-argument-preserved g c =
    let rule = ap rule_of c.required.ensures ∙ ap optional (c.arg.ensures.rule ∙ c.as_argument.ensures ∙ ap g.A.AsArgument.rule c.argument-item.is) in
    let global = ap (λ a. a.global) c.required.ensures ∙ c.arg.ensures.global in
    let more = map_more g.A.AsArgument.rule c.args.arguments.now c.loop-argument.argument-index c.argument-item.result (omega (arith, c.loop-argument-test.true)) in
    c.in_ok-command.ensures.shape global ∙ ap₂ with_rule c.loop-argument.invariant rule ∙ one_more _ _
    ∙ ap command (sym (ap (map optional) more ∙ map-append optional _ _))
