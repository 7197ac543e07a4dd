use Rattle.std.proofs.Common.{refl, sym, ◌∙◌}
use Rattle.std.proofs.lemmas.Bool.{false≢true}
use Rattle.broker_core.proofs.DeskLaws.{stalls_free}
use Rattle.broker_core.proofs.desk.Desk.learn_parts.Goals as goal

pub returns-then-not-learn-2-clause-same : goal.returns-then-not-learn-2-clause-same
returns-then-not-learn-2-clause-same c h stands fails = record {
  of_accounts = stands.of_accounts;
  of_stalls = c.learn-in-Licence.ensures.same h stands.of_stalls c.if-not-learn-2.true;
  of_moves = stands.of_moves;
  of_fee = stands.of_fee;
}

pub returns-else-not-learn-2-clause-stalls : goal.returns-else-not-learn-2-clause-stalls
returns-else-not-learn-2-clause-stalls c most h stands answer ok = c.learn-in-Licence.ensures.learned most h stands.of_stalls answer c.if-not-learn-2.false

pub returns-else-not-learn : goal.returns-else-not-learn
returns-else-not-learn c =
    let free = stalls_free c.args.r.now c.in_default.not-Licence c.in_default.not-Stock in
    record {
      exact = λ h stands.
          ((λ ok. ((c.learn.ensures.exact h stands.of_accounts).0 c.if-not-learn.false, free h)), (λ may. (c.learn-in_default.ensures.exact h stands.of_stalls).1 may.1));
      accounts = λ h stands answer ok. c.learn.ensures.learned h stands.of_accounts answer c.if-not-learn.false;
      stalls = λ most h stands answer ok. c.learn-in_default.ensures.learned most h stands.of_stalls answer ok;
      same = λ h stands fails. absurd (false≢true (sym fails ∙ (c.learn-in_default.ensures.exact h stands.of_stalls).1 (free h)));
      moves = refl;
      fee = refl;
    }
