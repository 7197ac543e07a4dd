use Rattle.std.proofs.Common.{List, ℕ, ap, ap₂, sym, subst, ◌∙◌, refl, ◌++◌, ◌∷◌, [], is_some}
use Rattle.std.proofs.lemmas.Bool.{false≢true}
use Rattle.mc_records.specs.Entry.{Withdraw}
use Rattle.broker_accounts.specs.Accounts.{AccountView, AccountsView, account_of, changed, debited, withdraw_refusal}
use Rattle.broker_ledger.specs.declared.payment.Payment.{Payment}
use Rattle.broker_ledger.specs.declared.payment.Payment.TheVariants as payments
use Rattle.broker_ledger.specs.Ledger.{ShowsAccounts, ShowsPayments}
use Rattle.broker_ledger.proofs.LedgerLaws.{take_more, payments_more}
use Rattle.broker_ledger.proofs.LearnLaws.{name_is, amount_is, withdraw_allowed, withdraw_refused}
use Rattle.broker_ledger.proofs.broker_ledger.AccountLedger.withdraw.Goals as goal

pub returns-in-Err-clause-exact : goal.returns-in-Err-clause-exact
returns-in-Err-clause-exact c h m stands =
    let account = name_is _ _ c.args.account.now c.new.ensures.value c.unwrap-account.ensures in
    let amount = amount_is _ _ c.args.amount c.new-2.ensures.value c.unwrap-amount.ensures in
    let refused = c.in-Err.ensures.refusal ∙ ap₂ (λ (x : List ℕ) (y : ℕ). withdraw_refusal y (account_of c.args.self.now.accounts.accounts x)) account amount in
    (λ ok. absurd (false≢true ok), λ may. absurd (withdraw_refused stands.of_accounts c.args.account.now c.args.amount _ refused may.0 may.2))

pub returns-clause-exact : goal.returns-clause-exact
returns-clause-exact c h m stands =
    let account = name_is _ _ c.args.account.now c.new.ensures.value c.unwrap-account.ensures in
    let amount = amount_is _ _ c.args.amount c.new-2.ensures.value c.unwrap-amount.ensures in
    let taken = c.in-Ok.ensures.refusal ∙ ap₂ (λ (x : List ℕ) (y : ℕ). withdraw_refusal y (account_of c.args.self.now.accounts.accounts x)) account amount in
    let allowed = withdraw_allowed stands.of_accounts c.args.account.now c.args.amount (sym taken) in
    let new = stands.payments'.all_references c.args.reference.now ∙ sym (ap is_some c.get.ensures) ∙ sym c.is_some.ensures ∙ c.if-is_some.false in
    (λ ok. (allowed.0, new, allowed.1), λ may. refl)

pub returns-clause-learned : goal.returns-clause-learned
returns-clause-learned c h m stands ok =
    let account = name_is _ _ c.args.account.now c.new.ensures.value c.unwrap-account.ensures in
    let amount = amount_is _ _ c.args.amount c.new-2.ensures.value c.unwrap-amount.ensures in
    let may = (returns-clause-exact c h m stands).0 ok in
    let taken = ap (λ (v : AccountsView). v.accounts) c.put_payment.ensures.accounts ∙ c.in-Ok.ensures.taken
    ∙ ap₂ (λ (x : List ℕ) (y : ℕ). changed x (debited y) c.args.self.now.accounts.accounts) account amount in
    let kept = c.put_payment.ensures.payments ∙ ap₂ (λ (x : List ℕ) (y : ℕ). c.args.self.now.payments.items ++ payments.Withdrawal x y ∷ []) account amount in
    record {
      of_accounts = subst (λ (as' : List AccountView). ShowsAccounts as' (h ++ Withdraw m c.args.account.now c.args.amount c.args.reference.now ∷ [])) (sym taken)
          (take_more stands.of_accounts (Withdraw m c.args.account.now c.args.amount c.args.reference.now) c.args.account.now c.args.amount refl refl refl (λ q. refl) may.0 may.2);
      payments' = subst (λ (ps : List Payment). ShowsPayments c.put_payment.new.self.references ps (h ++ Withdraw m c.args.account.now c.args.amount c.args.reference.now ∷ [])) (sym kept)
          (payments_more stands.payments' (Withdraw m c.args.account.now c.args.amount c.args.reference.now) c.args.reference.now (payments.Withdrawal c.args.account.now c.args.amount) refl refl may.1
          (c.put_payment.ensures.references c.args.reference.now c.requires.room.name));
    }
