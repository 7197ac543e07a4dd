use Rattle.std.proofs.Common.{arith}
use Rattle.command_table.specs.Parameters.{rule_of}
use Rattle.command_table.specs.Beginning.{is_option}
use Rattle.command_table.proofs.SpellLemmas.{any_at, none_at}
use Rattle.command_table.proofs.beginning.option_named.Goals as goal

pub returns-in-Some-clause-some : goal.returns-in-Some-clause-some
returns-in-Some-clause-some c = (
  c.in-Some.ensures.some.0,
  any_at rule_of (is_option c.args.name.now) c.args.parameters.now c.loop-parameter.parameter-index _ (omega (arith, c.loop-parameter-test.true)) c.in-Some.ensures.some.1,
)

pub returns-clause-none : goal.returns-clause-none
returns-clause-none c = λ none. none_at rule_of (is_option c.args.name.now) c.args.parameters.now (λ k lt d. c.loop-parameter.invariant k (omega (arith, lt, c.loop-parameter-test.false)) d)
