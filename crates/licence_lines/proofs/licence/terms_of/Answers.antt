use Rattle.std.proofs.Common.{arith, rules, sym, ◌∙◌}
use Rattle.std.specs.Prelude.{IsSome}
use Rattle.std.proofs.lemmas.Fmt.{decimal_injective}
use Rattle.scrip_form.specs.Issuing.{HasPeriod}
use Rattle.licence_lines.proofs.licence.terms_of.Goals as goal

pub returns-clause-none : goal.returns-clause-none
returns-clause-none c = λ none t issuer are spell.
    let period = c.in_ok-period.ensures.some in
    let life = c.in_ok-life.ensures.some in
    let same_period = decimal_injective c.in_ok-period.period t.period (omega (arith, period.0.most')) (omega (arith, are.period.most)) (sym period.1 ∙ spell.period') in
    let same_life = decimal_injective c.in_ok-life.life t.life (omega (arith, life.0.most')) (omega (arith, are.period.short)) (sym life.1 ∙ spell.life') in
    let has : HasPeriod c.in_ok-period.period c.in_ok-life.life = record {
      least = omega (arith, same_period, are.period.least);
      most = omega (arith, same_period, are.period.most);
      short = omega (arith, same_life, are.period.short);
    } in
    let some : IsSome c.new.result = c.new.ensures.valid.1 has in
    search rules
