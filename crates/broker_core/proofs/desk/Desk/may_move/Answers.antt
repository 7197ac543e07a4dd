use Rattle.std.proofs.Common.{eqb, sym, refl, ◌∙◌}
use Rattle.std.proofs.lemmas.Bool.{eqb-true, eq-eqb, false_from_ne_true, false≢true}
use Rattle.broker_core.proofs.MoveLaws.{moves_free}
use Rattle.broker_core.proofs.desk.Desk.may_move.Goals as goal

pub returns-in_default : goal.returns-in_default
returns-in_default c h stands = (λ ok. moves_free c.args.r.now c.in_default.not-Upgrade h, λ may. refl)

pub returns-then-issuer-eq0 : goal.returns-then-issuer-eq0
returns-then-issuer-eq0 c h stands =
    let own = eq-eqb c.in-Upgrade.issuer 0 c.if-issuer-eq0.true in
    rw c.in-Upgrade.is (λ ok other. absurd (false≢true (sym other ∙ own)), λ may. refl)

pub returns : goal.returns
returns c h stands =
    let other = false_from_ne_true (eqb c.in-Upgrade.issuer 0) (λ is. c.if-issuer-eq0.false (eqb-true c.in-Upgrade.issuer 0 is)) in
    let said = c.may_raise.ensures h stands in
    rw c.in-Upgrade.is (λ ok not_own. said.0 ok, λ may. said.1 (may other))
