use Rattle.std.proofs.Common.{◌∙◌, sym}
use Rattle.broker_core.proofs.OperatorLemmas.{same_licensed, other_licensed, new_licensed}
use Rattle.broker_core.proofs.operator.licence_task.Goals as goal

pub returns-then-are_same-clause-exact : goal.returns-then-are_same-clause-exact
returns-then-are_same-clause-exact c h st =
    same_licensed c.args.moment c.args.vendor.now c.args.terms.now c.in-Some.standing.now _ (rw c.bytes.ensures.value at (c.in-Some.ensures h st)) (sym c.if-are_same.ensures)

pub returns-else-are_same-clause-exact : goal.returns-else-are_same-clause-exact
returns-else-are_same-clause-exact c h st =
    other_licensed c.args.moment c.args.vendor.now c.args.terms.now c.in-Some.standing.now _ _ (rw c.bytes.ensures.value at (c.in-Some.ensures h st)) (sym c.if-are_same.ensures) (c.from.ensures ∙ c.issuer.ensures)

pub returns-clause-exact : goal.returns-clause-exact
returns-clause-exact c h st =
    rw (c.bytes-2.ensures.value, c.of.ensures) (new_licensed c.args.moment c.args.vendor.now c.args.terms.now _ (rw c.bytes.ensures.value at (c.in_default.ensures h st)))

pub returns-clause-new : goal.returns-clause-new
returns-clause-new c h st some = sym (rw c.bytes.ensures.value at (c.in_default.ensures h st))
