use Rattle.std.proofs.Common.{refl}
use Rattle.mc_records.specs.Views.{entry}
use Rattle.broker_ledger.proofs.LedgerLaws.{none_more, payments_stay}
use Rattle.broker_ledger.proofs.LearnLaws.{is_quiet}
use Rattle.broker_ledger.proofs.broker_ledger.AccountLedger.learn.Goals as goal

pub returns-in-Account-clause-exact : goal.returns-in-Account-clause-exact
returns-in-Account-clause-exact c h stands = rw c.in-Account.is (c.open.ensures.exact h stands)

pub returns-in-Deposit-clause-exact : goal.returns-in-Deposit-clause-exact
returns-in-Deposit-clause-exact c h stands = rw c.in-Deposit.is (c.deposit.ensures.exact h c.in-Deposit.moment stands)

pub returns-in-Withdraw-clause-exact : goal.returns-in-Withdraw-clause-exact
returns-in-Withdraw-clause-exact c h stands = rw c.in-Withdraw.is (c.withdraw.ensures.exact h c.in-Withdraw.moment stands)

pub returns-in_default : goal.returns-in_default
returns-in_default c =
    let quiet = is_quiet c.args.r.now c.in_default.not-Accept c.in_default.not-Mint c.in_default.not-Account c.in_default.not-Deposit c.in_default.not-Withdraw c.in_default.not-Draw in
    record {
      exact = λ h stands. (λ ok. quiet.allowed h, λ may. refl);
      learned = λ h stands answer ok. record {
        of_accounts = none_more stands.of_accounts (entry c.args.r.now) quiet.opens quiet.puts quiet.takes quiet.orders;
        payments' = payments_stay stands.payments' (entry c.args.r.now) quiet.reference;
      };
      same = λ h stands no. stands;
    }
