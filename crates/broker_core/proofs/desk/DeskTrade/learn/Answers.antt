use Rattle.std.proofs.Common.{◌∙◌, ap, sym, ℕ}
use Rattle.mc_records.specs.Views.{entry}
use Rattle.house_state.specs.Learning.{untested}
use Rattle.broker_core.specs.Desk.{fee_by}
use Rattle.std.proofs.lemmas.Bool.{false≢true}
use Rattle.broker_core.proofs.DeskLaws.{answered_by, sold_by, by_trade, not_by_trade, fee_more}
use Rattle.broker_core.proofs.desk.DeskTrade.learn.Goals as goal
use Rattle.broker_core.proofs.desk.DeskTrade.learn.Goals.{then-not-is_of_broker-via-then-not-is_of_broker, then-not-is_of_broker-via-else-not-is_of_broker+then-not-learn_all}

pub returns-clause-learned : goal.returns-clause-learned
returns-clause-learned c limits h stands may =
    let e = entry c.args.r.now in
    record {
      of_accounts = c.learn_all.ensures.accounts h stands (answered_by c.accounts_follow.ensures.answered limits c.args._number h e may) c.if-not-learn_all.false;
      of_stalls = c.learn_all.ensures.stalls limits.series h stands (sold_by c.stalls_follow.ensures.answered limits c.args._number h e may) c.if-not-learn_all.false;
      of_moves = c.learn_all.ensures.moves h stands c.if-not-learn_all.false;
      of_fee = fee_more h e limits may.by_house ∙ ap (λ (n : ℕ). fee_by n e) stands.of_fee ∙ ap (λ (n : ℕ). fee_by n e) (sym c.learn_all.ensures.fee) ∙ sym c.fee_after-self.ensures;
    }

pub returns-then-not-is_of_broker-clause-exact : goal.returns-then-not-is_of_broker-clause-exact
returns-then-not-is_of_broker-clause-exact c limits h stands may =
    let e = entry c.args.r.now in
    elim c.then-not-is_of_broker.branch [
      | then-not-is_of_broker-via-then-not-is_of_broker w ↦
          (λ ok. absurd (false≢true ok), λ b. absurd (not_by_trade untested h e (λ is. false≢true (sym w.if-not-is_of_broker.true ∙ c.is_of_broker.ensures.1 is)) b))
      | then-not-is_of_broker-via-else-not-is_of_broker+then-not-learn_all w ↦ (
        λ ok. absurd (false≢true ok),
        λ b. absurd (false≢true (sym w.if-not-learn_all.true ∙ (w.learn_all.ensures.exact h stands).1 ((by_trade h e (c.is_of_broker.ensures.0 w.if-not-is_of_broker.false)).1 b))),
      )
    ]
