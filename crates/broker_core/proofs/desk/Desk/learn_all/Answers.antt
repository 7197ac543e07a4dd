use Rattle.std.proofs.Common.{refl, sym, ◌∙◌}
use Rattle.std.proofs.lemmas.Bool.{false≢true, true≢false}
use Rattle.broker_core.proofs.desk.Desk.learn_all.Goals as goal

pub returns-then-not-may_move-clause-exact : goal.returns-then-not-may_move-clause-exact
returns-then-not-may_move-clause-exact c h stands =
    (λ ok. absurd (false≢true ok), λ may. absurd (false≢true (sym c.if-not-may_move.true ∙ (c.may_move.ensures h stands).1 may.1)))

pub returns-then-not-learn_parts-clause-exact : goal.returns-then-not-learn_parts-clause-exact
returns-then-not-learn_parts-clause-exact c h stands =
    (λ ok. absurd (false≢true ok), λ may. absurd (false≢true (sym c.if-not-learn_parts.true ∙ (c.learn_parts.ensures.exact h stands).1 may.0)))

pub returns-then-not-learn_parts-clause-same : goal.returns-then-not-learn_parts-clause-same
returns-then-not-learn_parts-clause-same c h stands fails = c.learn_parts.ensures.same h stands c.if-not-learn_parts.true

pub returns : goal.returns
returns c = record {
  exact = λ h stands. (λ ok. ((c.learn_parts.ensures.exact h stands).0 c.if-not-learn_parts.false, (c.may_move.ensures h stands).0 c.if-not-may_move.false), λ may. refl);
  accounts = λ h stands answer ok. c.learn_parts.ensures.accounts h stands answer c.if-not-learn_parts.false;
  stalls = λ most h stands answer ok. c.learn_parts.ensures.stalls most h stands answer c.if-not-learn_parts.false;
  moves = λ h stands ok. c.learn.ensures h (rw (← c.learn_parts.ensures.moves) at stands.of_moves);
  same = λ h stands fails. absurd (true≢false fails);
  fee = c.learn_parts.ensures.fee;
}
