use Rattle.std.proofs.Common.{refl}
use Rattle.mc_records.specs.Views.{deed_of}
use Rattle.broker_ledger.proofs.LedgerLaws.{payments_stay}
use Rattle.broker_ledger.proofs.LearnLaws.{no_credit_more, credit_more, credit_refused}
use Rattle.broker_ledger.proofs.broker_ledger.AccountLedger.credit.Goals as goal

pub returns-in_default : goal.returns-in_default
returns-in_default c h m scrip sign change stands answer = record {
  of_accounts = no_credit_more stands.of_accounts m scrip c.args.target.now sign c.args.price change (deed_of c.args.deed) answer c.in_default.ensures;
  payments' = payments_stay stands.payments' _ refl;
}

pub returns-in-Ok : goal.returns-in-Ok
returns-in-Ok c h m scrip sign change stands answer = record {
  of_accounts = credit_more stands.of_accounts m scrip c.args.target.now sign c.args.price change (deed_of c.args.deed) _ _ _ answer c.in-Some.ensures c.minted.ensures c.in-Ok.ensures.put;
  payments' = payments_stay stands.payments' _ refl;
}

pub returns-in-Err : goal.returns-in-Err
returns-in-Err c h m scrip sign change stands answer =
    absurd (credit_refused stands.of_accounts m scrip c.args.target.now sign c.args.price change (deed_of c.args.deed) _ _ _ _ answer c.in-Some.ensures c.minted.ensures c.in-Err.ensures.refusal)
