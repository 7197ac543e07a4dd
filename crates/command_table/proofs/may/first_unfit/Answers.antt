use Rattle.std.proofs.Common.{arith, refl}
use Rattle.std.proofs.lemmas.List.Elements.{Contains-get_or}
use Rattle.command_table.proofs.SpellLemmas.{each_last, each_next}
use Rattle.command_table.proofs.may.first_unfit.Goals as goal

pub returns-then-not-may_be-clause-none : goal.returns-then-not-may_be-clause-none
returns-then-not-may_be-clause-none c = (
  λ t. absurd (cc t),
  λ each.
      let next = (each_next c.args.found.now c.args.parameters.now c.loop-parameter.parameter-index _ c.loop-parameter-test.true).0 (c.loop-parameter.invariant.0 each) in
      let may = c.may_be.ensures.1 next.0 in
      absurd (cc (may, c.if-not-may_be.true)),
)

pub returns-then-not-may_be-clause-listed : goal.returns-then-not-may_be-clause-listed
returns-then-not-may_be-clause-listed c = Contains-get_or c.args.parameters.now c.loop-parameter.parameter-index _ c.loop-parameter-test.true

pub loop-parameter-preserved : goal.loop-parameter-preserved
loop-parameter-preserved c =
    let next = each_next c.args.found.now c.args.parameters.now c.loop-parameter.parameter-index _ c.loop-parameter-test.true in (
      λ each. (next.0 (c.loop-parameter.invariant.0 each)).1,
      λ others. c.loop-parameter.invariant.1 (next.1 (c.may_be.ensures.0 c.if-not-may_be.false, others)),
    )

pub returns-clause-none : goal.returns-clause-none
returns-clause-none c = (
  λ t. c.loop-parameter.invariant.1 (each_last c.args.found.now c.args.parameters.now c.loop-parameter.parameter-index (omega (arith, c.loop-parameter-test.false))),
  λ each. refl,
)
