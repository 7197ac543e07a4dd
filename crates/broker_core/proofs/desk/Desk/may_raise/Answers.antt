use Rattle.std.proofs.Common.{ap, sym, ◌∙◌}
use Rattle.std.specs.Prelude.{is_some}
use Rattle.std.proofs.lemmas.Bool.{false≢true}
use Rattle.broker_core.proofs.MoveLaws.{none_raised, raised_by}
use Rattle.broker_core.proofs.desk.Desk.may_raise.Goals as goal

pub returns-then-is_some : goal.returns-then-is_some
returns-then-is_some c h stands =
    let stood = sym (ap is_some (c.upgraded.ensures h stands)) ∙ sym c.is_some.ensures ∙ c.if-is_some.true in
    (λ ok. absurd (false≢true ok), λ may. absurd (false≢true (sym may.new ∙ stood)))

pub returns-in-Some : goal.returns-in-Some
returns-in-Some c h stands =
    let new = sym (ap is_some (c.upgraded.ensures h stands)) ∙ sym c.is_some.ensures ∙ c.if-is_some.false in
    raised_by h c.args.moment c.args.vendor.now c.args.issuer c.args.from c.in-Some.terms.now c.comes.result new (c.in-Some.ensures h stands) c.comes.ensures

pub returns-in-None : goal.returns-in-None
returns-in-None c h stands =
    (λ ok. absurd (false≢true ok), λ may. absurd (none_raised h c.args.moment c.args.vendor.now c.args.issuer c.args.from (c.in-None.ensures h stands) may))
