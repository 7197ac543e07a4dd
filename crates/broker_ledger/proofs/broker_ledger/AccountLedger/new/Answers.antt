use Rattle.std.proofs.Common.{List, [], sym, subst}
use Rattle.broker_accounts.specs.Accounts.{AccountView}
use Rattle.broker_ledger.specs.declared.payment.Payment.{Payment}
use Rattle.broker_ledger.specs.Ledger.{ShowsAccounts, ShowsPayments}
use Rattle.broker_ledger.proofs.LedgerLaws.{no_accounts, no_payments}
use Rattle.broker_ledger.proofs.broker_ledger.AccountLedger.new.Goals as goal

pub returns : goal.returns
returns c = record {
  of_accounts = subst (λ (as' : List AccountView). ShowsAccounts as' []) (sym c.new.ensures.accounts) no_accounts;
  payments' = subst (λ (ps : List Payment). ShowsPayments c.new-3.result ps []) (sym c.new-2.ensures.items) (no_payments c.new-3.result c.new-3.ensures.places);
}
