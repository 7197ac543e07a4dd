use Rattle.std.proofs.Common.{sym, ◌∙◌, arith}
use Rattle.std.proofs.lemmas.Fmt.{decimal_injective}
use Rattle.command_table.proofs.value.number_from.Goals as goal

pub returns-then-n-least-clause-none : goal.returns-then-n-least-clause-none
returns-then-n-least-clause-none c = λ none n is spelled.
    let number = c.in_ok-n.ensures.number in
    let low = c.if-n-least.true in
    let same = decimal_injective n c.in_ok-n.n (omega (arith, is.most')) (omega (arith, number.0)) (sym spelled ∙ number.1) in
    absurd (omega (arith, same, low, is.least'))
